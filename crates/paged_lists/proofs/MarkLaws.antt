-- Laws of marks for the loops over them: one mark more, pages without a mark, and a fill that stops at the end of the marks. Assumes nothing.
use mathlib.Core.Path.{◌≡◌, refl, sym, ap, ◌∙◌}
use mathlib.Core.Bool.{Bool, true, false, ◌&&◌}
use mathlib.Core.List.{List, [], ◌∷◌}
use Prim.Native.Nat.{ℕ, zero, suc, ◌+◌, ◌-◌, ◌≤◌, ◌<◌}
use native.Mathlib.Omega.{arith}
use borrow.Author.Tests.{ne_eqb}
use borrow.Rule.Slice.PartMut.{put_mid}
use lib.Dec.{leb, eqb}
use lib.ListN.{get_or-eq_default, length, take, drop, get_or, replicate, length-replicate, replicate-append-replicate}
use lib.Seq.{drop-cons}
use Rattle.error.specs.Lent.{over}
use Rattle.error.proofs.OverLaws.{length_over, over-is, over_right, over-end}
use Rattle.std.specs.List.{list_all}
use Rattle.paged_lists.specs.declared.PageType.{PageType}
use Rattle.paged_lists.specs.Kinds.{mark_of}
use Rattle.paged_lists.specs.Pages.{marks_fit, all_marked}
use Rattle.paged_lists.proofs.ByteLaws.{mark_some}

-- ---- `marks_fit`

pub fit_all : (ms : List ℕ) → list_all (λ m. leb m 2) ms ≡ marks_fit ms
fit_all [] = refl
fit_all (m ∷ ms) = ap (λ (t : Bool). leb m 2 && t) (fit_all ms)

-- ---- `all_marked`

pub marked_all : (mark n q : ℕ) (ms : List ℕ) → q + n ≤ length ms → list_all (λ m. eqb m mark) (take n (drop q ms)) ≡ all_marked mark n q ms
marked_all mark zero q ms h = refl
marked_all mark (suc n) q ms h =
    let l : q < length ms = omega arith in
    ap (λ (rest : List ℕ). list_all (λ m. eqb m mark) (take (suc n) rest)) (drop-cons ms q 0 l)
    ∙ ap (λ (t : Bool). eqb (get_or ms q 0) mark && t) (marked_all mark n (suc q) ms (omega arith))

-- the last of n + 1 pages has no mark
none-past : (k : PageType) (n q : ℕ) (ms : List ℕ) → length ms ≤ q + n → all_marked (mark_of k) (suc n) q ms ≡ false
none-past k zero q ms h =
    ap (λ (t : Bool). t && true) (ne_eqb (get_or ms q 0) (mark_of k) (λ e. mark_some k (sym e ∙ get_or-eq_default ms 0 (omega arith))))
none-past k (suc n) q ms h = go (eqb (get_or ms q 0) (mark_of k)) (none-past k n (suc q) ms (omega arith))
  where
    go : (t : Bool) → all_marked (mark_of k) (suc n) (suc q) ms ≡ false → (t && all_marked (mark_of k) (suc n) (suc q) ms) ≡ false
    go true e = e
    go false e = refl

pub past-marks : (k : PageType) (n q : ℕ) (ms : List ℕ) → 0 < n → length ms < q + n → all_marked (mark_of k) n q ms ≡ false
past-marks k zero q ms some h = absurd (omega arith)
past-marks k (suc n) q ms some h = none-past k n q ms (omega arith)

-- ---- `set_marks`

-- what is written to a part of a run is written over it
pub put_mid-over : (a : ℕ) (xs ys : List ℕ) → a + length ys ≤ length xs → put_mid a (length ys) xs ys ≡ over a ys xs
put_mid-over zero xs ys h = sym (over-is ys xs (omega arith))
put_mid-over (suc a) [] ys h = absurd (omega arith)
put_mid-over (suc a) (x ∷ xs) ys h = ap (λ (l : List ℕ). x ∷ l) (put_mid-over a xs ys (omega arith))

-- a fill stops at the end of the marks
pub fill_cut : (i n m v : ℕ) (xs : List ℕ) → n ≤ m → (n < m → length xs ≤ i + n) → over i (replicate n v) xs ≡ over i (replicate m v) xs
fill_cut i n m v xs h e = go (m - n) refl
  where
    go : (d : ℕ) → m - n ≡ d → over i (replicate n v) xs ≡ over i (replicate m v) xs
    go zero z = let s : n ≡ m = omega arith in ap (λ (k : ℕ). over i (replicate k v) xs) s
    go (suc d) z =
        let vs = replicate n v in
        let ws = replicate (suc d) v in
        let s : n + suc d ≡ m = omega arith in
        let l : length (over i vs xs) ≤ i + length vs = omega (arith, e (omega arith), length_over i vs xs, length-replicate {A = ℕ} n v) in
        sym (ap (λ (k : ℕ). over i (replicate k v) xs) (sym s)
        ∙ ap (λ (us : List ℕ). over i us xs) (sym (replicate-append-replicate n (suc d) v))
        ∙ sym (over_right i vs ws xs)
        ∙ over-end (i + length vs) ws (over i vs xs) l)
