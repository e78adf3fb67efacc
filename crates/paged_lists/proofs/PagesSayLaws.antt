-- What pins the tests over pages (specs/PagesSay.antt), proved. Assumes nothing.
use mathlib.Core.Path.{◌≡◌, refl, sym, ap, ◌∙◌}
use mathlib.Core.Bool.{Bool, true, false, cond, not, ◌&&◌}
use mathlib.Core.List.{List}
use mathlib.Core.Logic.{◌↔◌}
use Prim.Native.Nat.{ℕ, zero, suc, ◌+◌, ◌-◌, ◌*◌, ◌/◌, ◌≤◌, ◌<◌, max}
use native.Mathlib.Nat.{suc-mul, le-div_iff_mul-le, div-lt_iff_lt-mul}
use native.Mathlib.Omega.{arith}
use borrow.Author.Tests.{eqb-false, not-true}
use lib.Dec.{eqb}
use lib.ListN.{get_or}
use Rattle.error.proofs.TestLaws.{true_not_false}
use Rattle.fields.specs.Ranges.{top}
use Rattle.free_regions.specs.Sets.{Between}
use Rattle.free_regions.proofs.OkLaws.{ok_prop}
use Rattle.paged_lists.specs.Pages.{mark_at, last_page, all_marked, other_kind}
use Rattle.paged_lists.specs.PagesSay.{Meets, PagesSay}
use Rattle.paged_lists.proofs.PageLaws.{page_mono, own-kind, pages-exact}

-- one of n pages from q on has another mark
some-other : (m n q : ℕ) (ms : List ℕ) → all_marked m n q ms ≡ false → (k : ℕ) × Between q (q + n) k × (get_or ms k 0 ≡ m → ⊥)
some-other m zero q ms e = true_not_false true refl e
some-other m (suc n) q ms e = go (eqb (get_or ms q 0) m) refl e (some-other m n (suc q) ms)
  where
    go : (t : Bool) → eqb (get_or ms q 0) m ≡ t → (t && all_marked m n (suc q) ms) ≡ false
        → (all_marked m n (suc q) ms ≡ false → (k : ℕ) × Between (suc q) (suc q + n) k × (get_or ms k 0 ≡ m → ⊥)) → (k : ℕ) × Between q (q + suc n) k × (get_or ms k 0 ≡ m → ⊥)
    go true t e ih = let r = ih e in let b = r.1 in (r.0, (omega arith, omega arith), r.2)
    go false t e ih = (q, (omega arith, omega arith), eqb-false (get_or ms q 0) m t)

module _ (page : ℕ) (pos : 0 < page) where
  -- the pages from the one of the first byte to the one of the last
  meets : (a len q : ℕ) → 0 < len → ((a / page ≤ q) × (q ≤ last_page page a len)) ↔ Meets page a len q
  meets a len q some = (
    λ t.
        let x = max a (q * page) in
        let low : q * page ≤ a + len - 1 = (le-div_iff_mul-le {k = page} {x = q} {y = a + len - 1} pos).0 t.1 in
        let high : a < suc q * page = (div-lt_iff_lt-mul {k = page} {x = a} {y = suc q} pos).0 (omega (arith, t.0)) in
        let next : suc q * page ≡ q * page + page = suc-mul q page in
        let from : q ≤ x / page = (le-div_iff_mul-le {k = page} {x = q} {y = x} pos).1 (omega arith) in
        let to : x / page < suc q = (div-lt_iff_lt-mul {k = page} {x = x} {y = suc q} pos).1 (omega arith) in
        (x, (omega arith, omega arith), omega arith),
    λ (x, b, e). (omega (arith, page_mono page pos a x b.0), omega (arith, page_mono page pos x (a + len - 1) (omega arith))),
  )

  other-kind : (mark a len : ℕ) (ms : List ℕ) → (other_kind page mark a len ms ≡ true) ↔ ((x : ℕ) × Between a (a + len) x × (mark_at page ms x ≡ mark → ⊥))
  other-kind mark a len ms = (to (eqb len 0) refl, back (other_kind page mark a len ms) refl)
    where
      n : ℕ
      n = suc (last_page page a len - a / page)

      found : (k : ℕ) → (get_or ms k 0 ≡ mark → ⊥) → Meets page a len k → (x : ℕ) × Between a (a + len) x × (mark_at page ms x ≡ mark → ⊥)
      found k h m = (m.0, m.1, λ f. h (ap (λ (q : ℕ). get_or ms q 0) (sym m.2) ∙ f))

      to : (t : Bool) → eqb len 0 ≡ t → cond t false (not (all_marked mark (suc (last_page page a len - a / page)) (a / page) ms)) ≡ true
          → (x : ℕ) × Between a (a + len) x × (mark_at page ms x ≡ mark → ⊥)
      to true t e = true_not_false false e refl
      to false t e =
          let z = eqb-false len 0 t in
          let r = some-other mark n (a / page) ms (not-true _ e) in
          let b = r.1 in
          let h = page_mono page pos a (a + len - 1) (omega arith) in
          found r.0 r.2 ((meets a len r.0 (omega arith)).0 (omega arith, omega arith))

      back : (t : Bool) → other_kind page mark a len ms ≡ t → ((x : ℕ) × Between a (a + len) x × (mark_at page ms x ≡ mark → ⊥)) → t ≡ true
      back true e r = refl
      back false e r = absurd (r.2 (own-kind page pos mark a len ms r.0 e r.1))

  pub pages_say : PagesSay page
  pages_say = record {
    other-kind = other-kind;
    whole = λ rs a len q ok some f.
        let e = pages-exact page pos rs a len top q ((ok_prop 0 rs).0 ok) some f in
        let m = meets a len q some in
        (λ b. let t = e.0 b in (m.0 (t.0, t.1), t.2), λ t. let r = m.1 t.0 in e.1 (r.0, r.1, t.1));
  }
