-- The loop of `groups_count`, as facts about numbers and lists. Assumes nothing.
use mathlib.Core.Path.{◌≡◌, refl, sym, ap, ◌∙◌}
use mathlib.Core.List.{List, ◌++◌}
use mathlib.Core.Logic.{◌⊎◌, inl, inr, ⊎_elim}
use Prim.Native.Nat.{ℕ, zero, suc, ◌+◌, ◌*◌, ◌-◌, ◌/◌, ◌^◌, ◌≤◌, ◌<◌}
use native.Mathlib.Nat.{le-div_iff_mul-le, div-lt_iff_lt-mul, mul-le-mul, le_refl, add-zero}
use native.Mathlib.Numerals.{add-one}
use native.Mathlib.Omega.{arith}
use borrow.Author.Tests.{lt-ltb, le-ltb}
use lib.Dec.{ltb, lit≤}
use lib.ListN.{length, drop, length-append, length-drop}
use lib.Seq.{drop-drop}
use Rattle.error.specs.declared.Refusal.TheVariants.{InvalidManager}
use Rattle.error.proofs.OutcomeLaws.{then_then, then_same}
use Rattle.error.specs.Outcome.{Outcome, answer, refused, and_then}
use Rattle.error.proofs.TestLaws.{le-or-lt}
use Rattle.fields.specs.Layout.{le_at}
use Rattle.fields.specs.Width.{enc_size}
use Rattle.fields.proofs.WidthLaws.{enc_size-least}
use Rattle.fsm_sections.specs.declared.FreeSection.{FreeSection}
use Rattle.fsm_sections.specs.Sections.{with_size}
use Rattle.fsm_sections.proofs.SectionsLaws.{length-with_size}
use Rattle.fsm_blocks.specs.Groups.{Widths, entry_size, head_size, read_more, parse_groups}
use Rattle.fsm_blocks.specs.declared.header.FsmHeader.{FsmHeader}
use Rattle.fsm_blocks.specs.declared.groups.GroupWidths.{GroupWidths}
use Rattle.fsm_blocks.specs.Parts.{counted, addresses, widths_in, Narrow, WidthsOf}
use Rattle.fsm_blocks.proofs.BytesLaws.{le_at-drop}
use Rattle.fsm_blocks.proofs.ScanLaws.{read_groups_zero, scan_short, scan_refused, scan_step}

-- ---- `passes`

pub product_fits : (count entry : ℕ) → count < 2 ^ 32 → entry ≤ 9 → count * entry < 2 ^ 64
product_fits count entry h l = let m : count * entry ≤ count * 9 = mul-le-mul (le_refl count) l in omega arith

pub by_quotient : (room count entry : ℕ) → 1 ≤ entry → ltb (room / entry) count ≡ ltb room (count * entry)
by_quotient room count entry p =
    ⊎_elim
    (λ (h : count ≤ room / entry). le-ltb (room / entry) count h ∙ sym (le-ltb room (count * entry) ((le-div_iff_mul-le p).0 h)))
    (λ (h : room / entry < count). lt-ltb (room / entry) count h ∙ sym (lt-ltb room (count * entry) ((div-lt_iff_lt-mul p).0 h)))
    (le-or-lt count (room / entry))

-- ---- a group at a place

pub length-addresses : (w c : ℕ) (bs : List ℕ) → length (addresses w c bs) ≡ c
unfolding addresses
length-addresses w zero bs = refl
length-addresses w (suc c) bs = ap suc (length-addresses w c (drop (suc w) bs))

module _ (s : List ℕ) (w : Widths) (some : 0 < head_size w) (at left : ℕ) (p : 0 < left) where
  pub short-at : length s - at < head_size w → parse_groups w left (drop at s) ≡ refused InvalidManager
  short-at h = scan_short w some left (drop at s) p (rw length-drop h)

  module _ (f : head_size w ≤ length s - at) (count : ℕ) (read : count ≡ le_at at w.counts s) where
    long : head_size w ≤ length (drop at s)
    long = rw length-drop f

    is-count : le_at 0 w.counts (drop at s) ≡ count
    is-count = le_at-drop at 0 w.counts s ∙ ap (λ (n : ℕ). le_at n w.counts s) (add-zero at) ∙ sym read

    pub refused-at : (left < count) ⊎ (length s - at - head_size w < count * entry_size w) → parse_groups w left (drop at s) ≡ refused InvalidManager
    refused-at (inl c) = scan_refused w some left (drop at s) p long (inl (rw is-count c))
    refused-at (inr c) = scan_refused w some left (drop at s) p long (inr (rw (is-count, length-drop at s) c))

    pub group_at : count ≤ left → count * entry_size w ≤ length s - at - head_size w
        → parse_groups w left (drop at s)
        ≡ read_more w (le_at (at + w.counts) w.sizes s) (addresses w.addresses count (drop (at + head_size w) s))
        (parse_groups w (left - count) (drop (at + head_size w + count * entry_size w) s))
    group_at c e =
        let step = rw is-count at (scan_step w some left (drop at s) p long (rw is-count c) (rw (is-count, length-drop at s) e)) in
        let far : at + (head_size w + count * entry_size w) ≡ at + head_size w + count * entry_size w = omega arith in
        step
        ∙ rw (le_at-drop at w.counts w.sizes s, drop-drop (head_size w) at s, drop-drop (head_size w + count * entry_size w) at s, far)

-- ---- the loop

-- how many sections are read, where so many are read already
abbrev after : ℕ → Outcome (List FreeSection) → Outcome ℕ
after n o = and_then o (λ l. answer (n + length l))

after_more : (w : Widths) (m n size : ℕ) (found : List ℕ) (o : Outcome (List FreeSection)) → m + length found ≡ n → after m (read_more w size found o) ≡ after n o
unfolding and_then
after_more w m n size found o h =
    then_then o _ _
    ∙ then_same o _ _ (λ l.
    let e : m + length (with_size size found ++ l) ≡ n + length l =
    omega (arith, length-append (with_size size found) l, length-with_size size found) in
    ap answer e)

-- at the head of the loop: what is left to read decides
pub record Scan (s : List ℕ) (w : Widths) (total at left : ℕ) : Type 0 where
  pub within : at ≤ length s
  pub few : left ≤ total
  pub same : counted (parse_groups w total s) ≡ after (total - left) (parse_groups w left (drop at s))

module _ (s : List ℕ) (w : Widths) (total : ℕ) where
  pub scan_start : Scan s w total 0 total
  scan_start = record {
    within = omega arith;
    few = le_refl total;
    same = then_same (parse_groups w total s) _ _ (λ l. let e : length l ≡ total - total + length l = omega arith in ap answer e);
  }

  module _ (at left : ℕ) (now : Scan s w total at left) where
    pub scan_end : left ≤ 0 → answer total ≡ counted (parse_groups w total s)
    unfolding and_then
    scan_end h =
        let z : left ≡ 0 = omega arith in
        let e : total - 0 + 0 ≡ total = omega arith in
        sym
        (now.same
        ∙ ap (λ (n : ℕ). after (total - n) (parse_groups w n (drop at s))) z
        ∙ ap (after (total - 0)) (read_groups_zero w (length (drop at s)) (drop at s))
        ∙ ap answer e)

    refuses : parse_groups w left (drop at s) ≡ refused InvalidManager → refused InvalidManager ≡ counted (parse_groups w total s)
    unfolding and_then
    refuses e = sym (now.same ∙ ap (after (total - left)) e)

    module _ (some : 0 < head_size w) (p : 0 < left) where
      pub no_head : length s - at < head_size w → refused InvalidManager ≡ counted (parse_groups w total s)
      no_head h = refuses (short-at s w some at left p h)

      module _ (f : head_size w ≤ length s - at) (count : ℕ) (read : count ≡ le_at at w.counts s) where
        pub beyond : left < count → refused InvalidManager ≡ counted (parse_groups w total s)
        beyond c = refuses (refused-at s w some at left p f count read (inl c))

        pub past : length s - at - head_size w < count * (w.addresses + 1) → refused InvalidManager ≡ counted (parse_groups w total s)
        past c = refuses (refused-at s w some at left p f count read (inr (rw add-one at c)))

        pub iteration : count ≤ left → count * (w.addresses + 1) ≤ length s - at - head_size w
            → Scan s w total (at + head_size w + count * (w.addresses + 1)) (left - count)
        iteration c e = rw add-one (record {
          within = omega (arith, now.within);
          few = omega (arith, now.few);
          same =
              now.same
              ∙ ap (after (total - left)) (group_at s w some at left p f count read c (rw add-one at e))
              ∙ after_more w (total - left) (total - (left - count)) _ (addresses w.addresses count (drop (at + head_size w) s)) _
              (omega (arith, now.few, length-addresses w.addresses count (drop (at + head_size w) s)));
        })

-- ---- `widths_of`

-- a width of a 64-bit number
pub enc_some : (v : ℕ) → v < 2 ^ 64 → 1 ≤ enc_size v
enc_some v h = (enc_size-least v h).some

pub enc_few : (v : ℕ) → v < 2 ^ 64 → enc_size v ≤ 8
enc_few v h = (enc_size-least v h).least 8 (lit≤ tt) h

pub head_some : (w : GroupWidths) → Narrow w → 0 < head_size (widths_in w)
head_some w n = omega (arith, n.some)

module _ (h : FsmHeader) (few : h.addr_space_bits ≤ 64) (total : h.total_sections < 2 ^ 64) (greatest : h.max_section_size < 2 ^ 64) where
  pub widths_are : {c s : ℕ} → c ≡ enc_size h.total_sections → s ≡ enc_size h.max_section_size
      → WidthsOf h (record { counts = c; sizes = s; addresses = (h.addr_space_bits + 7) / 8 })
  widths_are p q = record {
    same = λ i. record { counts = p i; sizes = q i; addresses = (h.addr_space_bits + 7) / 8 };
    narrow = record {
      some = rw p (enc_some h.total_sections total);
      counts_few = rw p (enc_few h.total_sections total);
      sizes_few = rw q (enc_few h.max_section_size greatest);
      addresses_few = omega arith;
    };
  }
