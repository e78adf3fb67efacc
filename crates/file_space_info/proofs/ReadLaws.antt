-- Laws of reading the message: the cases of its fixed part and of `parse`, and the loop that reads addresses. Assumes nothing.
use mathlib.Core.Path.{◌≡◌, refl, sym, ap, ap₂, ◌∙◌}
use mathlib.Core.Bool.{Bool, true, false, not, ◌&&◌}
use mathlib.Core.List.{List, [], ◌∷◌}
use Prim.Native.Nat.{ℕ, zero, suc, ◌+◌, ◌-◌, ◌*◌, ◌≤◌, ◌<◌, min}
use native.Mathlib.Nat.{suc-mul, le_of_suc-le-suc, not-suc-le-zero, div-mul-le_self, mul-le-mul_right}
use native.Mathlib.Omega.{arith}
use borrow.Author.Tests.{lt-ltb, le-ltb, eq-eqb, ne_eqb, leb-true, ltb-false, not-false}
use lib.Dec.{ltb, leb, eqb, lit≤}
use lib.ListN.{length, take, drop, get_or, set}
use lib.Seq.{drop-drop}
use Rattle.error.specs.declared.Refusal.{Refusal}
use Rattle.error.specs.declared.Refusal.TheVariants.{Width, Short, MessageVersion, OverCapacity}
use Rattle.error.specs.Outcome.{Outcome, answer, refused, when, first_of}
use Rattle.error.specs.Lent.{With, with, left, leaving, over}
use Rattle.error.proofs.TestLaws.{and_true}
use Rattle.error.proofs.OutcomeLaws.{refuses, passes, first_holds, first_passes, NoneHolds, first_pass, first_answers, first-append, first_refuses}
use Rattle.error.proofs.OverLaws.{front-next}
use Rattle.fields.specs.Le.{le_value}
use Rattle.fields.specs.Layout.{span, le_at, field_at}
use Rattle.fields.specs.Width.{valid_width}
use Rattle.fields.proofs.LayoutLaws.{le_at-one}
use Rattle.file_space_info.specs.declared.FileSpaceInfo.{FileSpaceInfo}
use Rattle.file_space_info.specs.declared.FileSpaceStrategy.{FileSpaceStrategy}
use Rattle.file_space_info.specs.declared.Parsed.{Parsed}
use Rattle.file_space_info.specs.Strategies.{from_code}
use Rattle.file_space_info.proofs.StrategyLaws.{code_passes}
use Rattle.file_space_info.specs.Message.{shape, fixed_len, info_with, info_of, present, numbers_at, fixed_tests, fixed_read, parsed}

-- ---- the sizes

pub record Sizes (O L : ℕ) : Type 0 where
  pub os_low : 1 ≤ O
  pub os_high : O ≤ 8
  pub ls_low : 1 ≤ L
  pub ls_high : L ≤ 8

pub sizes : (O L : ℕ) → (valid_width O && valid_width L) ≡ true → Sizes O L
sizes O L e =
    let p = and_true (valid_width O) (valid_width L) e in
    let o = and_true (leb 1 O) (leb O 8) p.0 in
    let l = and_true (leb 1 L) (leb L 8) p.1 in
    record { os_low = leb-true 1 O o.0; os_high = leb-true O 8 o.1; ls_low = leb-true 1 L l.0; ls_high = leb-true L 8 l.1 }

-- ---- the fixed part

module _ (O L : ℕ) (bs : List ℕ) where
  pub read-width : (valid_width O && valid_width L) ≡ false → refused Width ≡ fixed_read O L bs
  unfolding fixed_read
  read-width e = sym (first_holds _ _ _ _ (ap not e))

  module _ (widths : (valid_width O && valid_width L) ≡ true) where
    pub read_short : (n : ℕ) → n ≡ fixed_len O L → length bs < n → refused (Short n (length bs)) ≡ fixed_read O L bs
    unfolding fixed_read
    read_short n e h = rw e (sym (first_passes _ _ _ _ (ap not widths) ∙ first_holds _ _ _ _ (lt-ltb (length bs) (fixed_len O L) (rw e at h))))

    module _ (long : fixed_len O L ≤ length bs) where
      -- the tests that are left after the first two
      after_two : fixed_read O L bs ≡ first_of (drop 2 (fixed_tests O L bs)) (answer (info_of O L bs))
      unfolding fixed_read
      after_two = first_passes _ _ _ _ (ap not widths) ∙ first_passes _ _ _ _ (le-ltb (length bs) (fixed_len O L) long)

      pub read-version : (get_or bs 0 0 ≡ 1 → ⊥) → refused (MessageVersion (get_or bs 0 0)) ≡ fixed_read O L bs
      read-version h = rw (← le_at-one 0 bs) (sym (after_two ∙ first_holds _ _ _ _ (ap not (ne_eqb (le_at 0 1 bs) 1 (rw le_at-one h)))))

      module _ (version : get_or bs 0 0 ≡ 1) where
        after-three : fixed_read O L bs ≡ first_of (drop 3 (fixed_tests O L bs)) (answer (info_of O L bs))
        after-three = after_two ∙ first_passes _ _ _ _ (ap not (eq-eqb (le_at 0 1 bs) 1 (le_at-one 0 bs ∙ version)))

        pub read-refused : (r : Refusal) → refused r ≡ from_code (get_or bs 1 0) → refused r ≡ fixed_read O L bs
        unfolding from_code
        read-refused r e = first_refuses (drop 3 (fixed_tests O L bs)) _ r _ (rw (← le_at-one 1 bs) at e) ∙ sym after-three

        pub read_is : (s : FileSpaceStrategy) → answer s ≡ from_code (get_or bs 1 0) → answer (info_with O L s bs) ≡ fixed_read O L bs
        unfolding from_code
        read_is s e =
            let p = first_answers (drop 3 (fixed_tests O L bs)) _ _ (sym (rw (← le_at-one 1 bs) at e)) in
            ap (λ (t : FileSpaceStrategy). answer (info_with O L t bs)) (sym p.1) ∙ sym (after-three ∙ first_pass _ _ p.0)

-- what is accepted, and as what
pub read_accepts : (O L : ℕ) (bs : List ℕ) → (valid_width O && valid_width L) ≡ true → fixed_len O L ≤ length bs → field_at (shape O L) 0 bs ≡ 1 → field_at (shape O L) 1 bs ≤ 3
    → answer (info_of O L bs) ≡ fixed_read O L bs
unfolding fixed_read
read_accepts O L bs w l v c =
    sym (first_pass (fixed_tests O L bs) _ (ap not w, (le-ltb (length bs) (fixed_len O L) l, (ap not (eq-eqb (le_at 0 1 bs) 1 v), (code_passes (le_at 1 1 bs) c, tt)))))

-- field i as the code reads it
pub number_is : (O L i p : ℕ) (bs : List ℕ) {v : ℕ} → get_or (shape O L) i 0 ≤ 8 → p ≡ span (take i (shape O L))
    → v ≡ le_value (take (min (get_or (shape O L) i 0) 8) (drop p bs)) → v ≡ field_at (shape O L) i bs
number_is O L i p bs h e r =
    let m : min (get_or (shape O L) i 0) 8 ≡ get_or (shape O L) i 0 = omega arith in
    r ∙ ap₂ (λ (w a : ℕ). le_value (take w (drop a bs))) m e

-- the record as the code makes it
pub info-is : (O L : ℕ) (s : FileSpaceStrategy) (bs : List ℕ) {t p d e : ℕ} → O ≤ 8 → L ≤ 8
    → t ≡ le_value (take (min L 8) (drop 3 bs)) → p ≡ le_value (take (min L 8) (drop (3 + L) bs)) → d ≡ le_at (3 + 2 * L) 2 bs → e ≡ le_value (take (min O 8) (drop (5 + 2 * L) bs))
    → ◌≡◌ {A = FileSpaceInfo}
    (record { strategy = s; persist = not (eqb (get_or bs 2 0) 0); threshold = t; page_size = p; page_end_meta_threshold = d; eoa_pre_fsm = e })
    (info_with O L s bs)
info-is O L s bs {t} {p} {d} {e} o l rt rp rd re = λ i. record {
  strategy = s;
  persist = ap (λ (n : ℕ). not (eqb n 0)) (sym (le_at-one 2 bs)) i;
  threshold = number_is O L 3 3 bs l refl rt i;
  page_size = number_is O L 4 (3 + L) bs l (omega arith) rp i;
  page_end_meta_threshold = number_is O L 5 (3 + 2 * L) bs (lit≤ tt) (omega arith) rd i;
  eoa_pre_fsm = number_is O L 6 (5 + 2 * L) bs o (omega arith) re i;
}

-- what an accepted fixed part shows
pub record Accepted (O L : ℕ) (bs : List ℕ) (m : FileSpaceInfo) : Type 0 where
  pub passed : NoneHolds (fixed_tests O L bs)
  pub same : info_of O L bs ≡ m
  pub size : Sizes O L
  pub long : fixed_len O L ≤ length bs

pub accepted : (O L : ℕ) (bs : List ℕ) (m : FileSpaceInfo) → answer m ≡ fixed_read O L bs → Accepted O L bs m
unfolding fixed_read
accepted O L bs m e =
    let p = first_answers (fixed_tests O L bs) (info_of O L bs) m (sym e) in
    record { passed = p.0; same = p.1; size = sizes O L (not-false (valid_width O && valid_width L) p.0.0); long = ltb-false (length bs) (fixed_len O L) p.0.1.0 }

-- ---- the addresses

pub length-numbers : (w n : ℕ) (bs : List ℕ) → length (numbers_at w n bs) ≡ n
unfolding numbers_at
length-numbers w zero bs = refl
length-numbers w (suc n) bs = ap suc (length-numbers w n (drop w bs))

pub get_or-numbers : (w n i : ℕ) (bs : List ℕ) → i < n → get_or (numbers_at w n bs) i 0 ≡ le_at (i * w) w bs
unfolding numbers_at
get_or-numbers w zero i bs h = absurd (not-suc-le-zero h)
get_or-numbers w (suc n) zero bs h = let z : 0 ≡ 0 * w = omega arith in ap (λ (k : ℕ). le_at k w bs) z
get_or-numbers w (suc n) (suc i) bs h =
    let s : w + i * w ≡ suc i * w = omega (arith, suc-mul i w) in
    get_or-numbers w n i (drop w bs) (le_of_suc-le-suc h) ∙ ap (λ (l : List ℕ). le_value (take w l)) (drop-drop (i * w) w bs) ∙ ap (λ (k : ℕ). le_at k w bs) s

-- an iteration: the number at the place is stored
pub read_step : (w n at i : ℕ) (bs xs : List ℕ) {out : List ℕ} {v : ℕ} → w ≤ 8 → i < n → v ≡ le_value (take (min w 8) (drop (at + i * w) bs))
    → out ≡ over 0 (take i (numbers_at w n (drop at bs))) xs → set out i v ≡ over 0 (take (i + 1) (numbers_at w n (drop at bs))) xs
read_step w n at i bs xs {out} {v} e h r o =
    let s = numbers_at w n (drop at bs) in
    let m : min w 8 ≡ w = omega arith in
    let g : v ≡ get_or s i 0 =
    r ∙ ap (λ (k : ℕ). le_at (at + i * w) k bs) m ∙ sym (get_or-numbers w n i (drop at bs) h ∙ ap (λ (l : List ℕ). le_value (take w l)) (drop-drop (i * w) at bs)) in
    ap₂ (λ (l : List ℕ) (x : ℕ). set l i x) o g ∙ front-next i s xs (omega (arith, length-numbers w n (drop at bs)))

pub present-within : (O L n : ℕ) (t : Bool) → fixed_len O L ≤ n → fixed_len O L + present O L n t * O ≤ n
unfolding present
present-within O L n true h = omega (arith, div-mul-le_self (n - fixed_len O L) O)
present-within O L n false h = omega arith

-- ---- `parse`

module _ (O L : ℕ) (bs xs : List ℕ) where
  pub parsed-refused : (r : Refusal) → refused r ≡ fixed_read O L bs → left (refused r) xs ≡ leaving xs (parsed bs O L xs)
  unfolding fixed_read parsed
  parsed-refused r e = ap (leaving xs) (first_refuses (fixed_tests O L bs) _ r _ e ∙ sym (first-append (fixed_tests O L bs) _ _))

  module _ (m : FileSpaceInfo) (e : answer m ≡ fixed_read O L bs) (n : ℕ) (count : n ≡ present O L (length bs) m.persist) where
    ok : Accepted O L bs m
    ok = accepted O L bs m e

    counts : n ≡ present O L (length bs) (info_of O L bs).persist
    counts = count ∙ ap (λ (i : FileSpaceInfo). present O L (length bs) i.persist) (sym ok.same)

    last : Outcome (With Parsed (List ℕ))
    last = first_of (when (ltb (length xs) n) (OverCapacity n (length xs)) ∷ [])
        (answer (with (record { info = m; count = n }) (over 0 (numbers_at O n (drop (fixed_len O L) bs)) xs)))

    parsed-last : parsed bs O L xs ≡ last
    unfolding parsed last
    parsed-last =
        first-append (fixed_tests O L bs) _ _
        ∙ first_pass (fixed_tests O L bs) _ ok.passed
        ∙ ap₂ (λ (k : ℕ) (i : FileSpaceInfo). first_of (when (ltb (length xs) k) (OverCapacity k (length xs)) ∷ [])
        (answer (with (record { info = i; count = k }) (over 0 (numbers_at O k (drop (fixed_len O L) bs)) xs)))) (sym counts) ok.same

    -- the addresses stand within the bytes
    pub count-within : fixed_len O L + n * O ≤ length bs
    count-within = rw count (present-within O L (length bs) m.persist ok.long)

    pub parsed-over : length xs < n → left (refused (OverCapacity n (length xs))) xs ≡ leaving xs (parsed bs O L xs)
    unfolding last
    parsed-over h = ap (leaving xs) (refuses _ _ _ (lt-ltb (length xs) n h) ∙ sym parsed-last)

    pub parsed-answer : n ≤ length xs → answer (with (record { info = m; count = n }) (over 0 (numbers_at O n (drop (fixed_len O L) bs)) xs)) ≡ parsed bs O L xs
    unfolding last
    parsed-answer h = passes _ _ _ (le-ltb (length xs) n h) ∙ sym parsed-last

    pub parsed-is : n ≤ length xs → {k : ℕ} {out : List ℕ} → k ≡ fixed_len O L → out ≡ over 0 (numbers_at O n (drop k bs)) xs
        → left (answer (record { info = m; count = n })) out ≡ leaving xs (parsed bs O L xs)
    parsed-is h {k} {out} e o =
        ap (left (answer (record { info = m; count = n }))) (o ∙ ap (λ (j : ℕ). over 0 (numbers_at O n (drop j bs)) xs) e) ∙ ap (leaving xs) (parsed-answer h)
