-- Laws of the message: its length, and that what is written is what is read. Assumes nothing.
use mathlib.Core.Path.{◌≡◌, refl, sym, ap, ◌∙◌}
use mathlib.Core.Bool.{Bool, true, false, cond, not, ◌&&◌}
use mathlib.Core.List.{List, [], ◌∷◌, ◌++◌, append_assoc, append-nil}
use Prim.Native.Nat.{ℕ, suc, ◌+◌, ◌*◌, ◌^◌, ◌≤◌, ◌<◌}
use native.Mathlib.Nat.{mul-div_cancel, add-sub_cancel_left}
use native.Mathlib.Omega.{arith}
use borrow.Author.Tests.{ltb-false}
use lib.Dec.{eqb, lit<}
use lib.ListN.{length, drop, get_or}
use lib.Seq.{drop_at}
use Rattle.error.specs.Outcome.{answer}
use Rattle.error.specs.Lent.{With, with, over}
use Rattle.error.proofs.OutcomeLaws.{first_answers}
use Rattle.error.proofs.OverLaws.{take-over}
use Rattle.fields.specs.Le.{le_bytes}
use Rattle.fields.specs.Layout.{Field, field, row, layout, AllFit, field_at}
use Rattle.fields.specs.Width.{valid_width}
use Rattle.fields.proofs.LeLaws.{length-le}
use Rattle.fields.proofs.LayoutLaws.{length-layout, layout-append, fits-at, fits-append, field-read, le_at-le}
use Rattle.file_space_info.specs.declared.FileSpaceInfo.{FileSpaceInfo}
use Rattle.file_space_info.specs.Strategies.{strategy_of}
use Rattle.file_space_info.specs.Message.{shape, fixed_len, bit, numbers_of, address_row, message_row, message_bytes, info_of, present, numbers_at, fixed_read, serialized, parsed}
use Rattle.file_space_info.specs.RoundTrip.{carried, Stored, RoundTrip}
use Rattle.file_space_info.proofs.StrategyLaws.{code_le, strategy_code}
use Rattle.file_space_info.proofs.WriteLaws.{length_message}
use Rattle.file_space_info.proofs.ReadLaws.{sizes, read_accepts, parsed-answer}

-- ---- lengths at sizes 8

pub length-twelve : (m : FileSpaceInfo) (addrs : List ℕ) → m.persist ≡ true → length addrs ≡ 12 → length (message_bytes 8 8 m addrs) ≡ 125
length-twelve m addrs e n = length_message 8 8 m addrs ∙ rw (e, n)

-- ---- addresses

pub addresses-read : (O : ℕ) (l rest : List ℕ) → AllFit (address_row O l) → numbers_at O (length l) (layout (address_row O l) ++ rest) ≡ l
unfolding layout numbers_at
addresses-read O [] rest h = refl
addresses-read O (a ∷ l) rest h =
    rw (append_assoc, le_at-le 0 O a [] (layout (address_row O l) ++ rest) refl h.0, drop_at (le_bytes O a) (layout (address_row O l) ++ rest) O (length-le O a))
    (ap (λ (r : List ℕ). a ∷ r) (addresses-read O l rest h.1))

-- ---- what is written is what is read, at any sizes at which the numbers fit

module _ (O L : ℕ) (m : FileSpaceInfo) (addrs : List ℕ) (widths : (valid_width O && valid_width L) ≡ true) (fits : AllFit (message_row O L m addrs)) where
  abbrev fixed_row : List Field
  fixed_row = row (shape O L) (numbers_of m)

  abbrev rest : List Field
  rest = cond m.persist (address_row O addrs) []

  abbrev bs : List ℕ
  bs = message_bytes O L m addrs

  parts : bs ≡ layout fixed_row ++ layout rest
  parts = layout-append fixed_row rest

  at : (i : ℕ) → i < 7 → field_at (shape O L) i bs ≡ (get_or fixed_row i (field 0 0)).value
  at i h = ap (field_at (shape O L) i) parts ∙ field-read fixed_row i (layout rest) h (fits-at fixed_row i h (fits-append fixed_row rest fits).0)

  long : fixed_len O L ≤ length bs
  long = omega (arith, length_message O L m addrs)

  persists : not (eqb (field_at (shape O L) 2 bs) 0) ≡ m.persist
  persists = ap (λ (n : ℕ). not (eqb n 0)) (at 2 (lit< tt)) ∙ bit-read m.persist
    where
      bit-read : (t : Bool) → not (eqb (bit t) 0) ≡ t
      bit-read true = refl
      bit-read false = refl

  same : info_of O L bs ≡ m
  same = λ i. record {
    strategy = (ap strategy_of (at 1 (lit< tt)) ∙ strategy_code m.strategy) i;
    persist = persists i;
    threshold = at 3 (lit< tt) i;
    page_size = at 4 (lit< tt) i;
    page_end_meta_threshold = at 5 (lit< tt) i;
    eoa_pre_fsm = at 6 (lit< tt) i;
  }

  pub accepts : answer m ≡ fixed_read O L bs
  accepts = ap answer (sym same) ∙ read_accepts O L bs widths long (at 0 (lit< tt)) (rw (at 1 (lit< tt)) (code_le m.strategy))

  pub count : length (carried m addrs) ≡ present O L (length bs) m.persist
  unfolding present
  count = pick m.persist (length_message O L m addrs)
    where
      pick : (t : Bool) → length bs ≡ fixed_len O L + cond t (length addrs * O) 0 → length (cond t addrs []) ≡ present O L (length bs) t
      pick true e = sym (rw (e, add-sub_cancel_left) (mul-div_cancel (length addrs) (sizes O L widths).os_low))
      pick false e = refl

  pub addresses : numbers_at O (length (carried m addrs)) (drop (fixed_len O L) bs) ≡ carried m addrs
  unfolding layout numbers_at
  addresses = rw (parts, drop_at (layout fixed_row) (layout rest) (fixed_len O L) (length-layout fixed_row)) (pick m.persist (fits-append fixed_row rest fits).1)
    where
      pick : (t : Bool) → AllFit (cond t (address_row O addrs) []) → numbers_at O (length (cond t addrs [])) (layout (cond t (address_row O addrs) [])) ≡ cond t addrs []
      pick true h = rw (← append-nil (layout (address_row O addrs))) (addresses-read O addrs [] h)
      pick false h = refl

  pub written_read : (xs : List ℕ) → length (carried m addrs) ≤ length xs
      → parsed (message_bytes O L m addrs) O L xs ≡ answer (with (record { info = m; count = length (carried m addrs) }) (over 0 (carried m addrs) xs))
  written_read xs h =
      sym (parsed-answer O L bs xs m accepts (length (carried m addrs)) count h)
      ∙ ap (λ (l : List ℕ). answer (with (record { info = m; count = length (carried m addrs) }) (over 0 l xs))) addresses

-- ---- what `serialize` wrote, `parse` gives back

addresses-fit : (addrs : List ℕ) → ((i : ℕ) → get_or addrs i 0 < 2 ^ 64) → AllFit (address_row 8 addrs)
addresses-fit [] h = tt
addresses-fit (a ∷ addrs) h = (h 0, addresses-fit addrs (λ i. h (suc i)))

message_fits : (m : FileSpaceInfo) (addrs : List ℕ) → Stored m addrs → AllFit (message_row 8 8 m addrs)
message_fits m addrs s =
    (lit< tt, (omega (arith, code_le m.strategy), (flag m.persist, (s.threshold, (s.page_size, (s.page_end, (s.end_before, tail m.persist)))))))
  where
    flag : (b : Bool) → bit b < 256
    flag true = lit< tt
    flag false = lit< tt

    tail : (b : Bool) → AllFit (cond b (address_row 8 addrs) [])
    tail true = addresses-fit addrs s.addresses
    tail false = tt

pub round_trip : RoundTrip
unfolding serialized
round_trip m addrs out n u s e xs h =
    let written : List ℕ = message_bytes 8 8 m addrs in
    let q = first_answers _ _ (with n u) e in
    let room : length written ≤ length out = ltb-false (length out) (length written) q.0.0 in
    let a : length written ≡ n = ap (λ (w : With ℕ (List ℕ)). w.value) q.1 in
    let b : over 0 written out ≡ u = ap (λ (w : With ℕ (List ℕ)). w.memory) q.1 in
    rw (← a, ← b, take-over written out room) (written_read 8 8 m addrs refl (message_fits m addrs s) xs h)
