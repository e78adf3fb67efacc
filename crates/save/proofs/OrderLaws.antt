-- The refusals of a beginning in their order, by the branches of the code. Assumes nothing.
use mathlib.Core.Path.{◌≡◌, refl, sym, ap, ap₂, ◌∙◌}
use Prim.Native.Nat.{ℕ, ◌+◌, ◌≤◌, ◌<◌}
use native.Mathlib.Omega.{arith}
use mathlib.Core.Bool.{Bool, true, false, ◌&&◌, ◌||◌, not}
use mathlib.Core.List.{List, [], ◌∷◌}
use borrow.Author.Tests.{lt-ltb, le-ltb, eq-eqb, ne_eqb, leb-true, not-false}
use lib.Dec.{ltb, eqb}
use lib.ListN.{length, get_or}
use Rattle.error.specs.declared.Refusal.{Refusal}
use Rattle.error.specs.declared.Refusal.TheVariants.{Page, NotAList, Overflow, SharedAddress, MessageVersion, Strategy, Place, OverCapacity}
use Rattle.error.specs.Refusals.{number_of, values_of}
use Rattle.error.specs.Outcome.{Outcome, answer, refuse, refused, Condition, when, first_of}
use Rattle.error.specs.Lent.{With, with, left, leaving}
use Rattle.error.proofs.TestLaws.{or_false, true_not_false}
use Rattle.error.proofs.OutcomeLaws.{NoneHolds, first-none, first_holds, first_passes, first_answers, first-append, first_refuses}
use Rattle.free_lists.specs.declared.FileLists.{FileLists}
use Rattle.free_lists.specs.Lists.{together, Lists, Regions, lists_in, regions_in, are_lists, shared_byte}
use Rattle.file_space_info.specs.Message.{message_len}
use Rattle.save_step.specs.declared.Save.{Save}
use Rattle.save.specs.Saving.{block_len, too_large, message_in, blocks_out, any_in_the_way, late_tests, first_record, filled, begun_of, begun}
use Rattle.save.specs.Beginning.{away_tests, early_tests, begun_after}

-- ---- refusals 8, 9 and 13 in their order, for any tests

module _ (v t : ℕ) (a c d f : Bool) where
  abbrev three : Outcome (Unit {0})
  three = first_of (when (a && c) (MessageVersion v) ∷ when (a && d) (Strategy t) ∷ when (not a || f) Place ∷ []) (answer tt)

  is-outside : a ≡ false → refused Place ≡ three
  unfolding first_of
  is-outside k = rw k

  module _ (k : a ≡ true) where
    is-version : c ≡ true → refused (MessageVersion v) ≡ three
    unfolding first_of
    is-version l = rw (k, l)

    module _ (l : c ≡ false) where
      is_strategy : d ≡ true → refused (Strategy t) ≡ three
      unfolding first_of
      is_strategy m = rw (k, l, m)

      module _ (m : d ≡ false) where
        is_way : f ≡ true → refused Place ≡ three
        unfolding first_of
        is_way o = rw (k, l, m, o)

        is-fine : f ≡ false → answer tt ≡ three
        unfolding first_of
        is-fine o = rw (k, l, m, o)

module _ (rs : Regions) (start place : ℕ) (image : List ℕ) where
  abbrev ver : ℕ
  ver = get_or image place 0

  abbrev str : ℕ
  str = get_or image (place + 1) 0

  abbrev F : Outcome (Unit {0})
  F = first_of (away_tests rs start place image) (answer tt)

  abbrev bi : Bool
  bi = message_in place image

  abbrev bv : Bool
  bv = not (eqb ver 1)

  abbrev bs : Bool
  bs = ltb 3 str

  abbrev bw : Bool
  bw = any_in_the_way start place rs

  module _ (x : Bool) (xe : x ≡ bi) where
    pub away_outside : x ≡ false → refused Place ≡ F
    away_outside t = is-outside ver str bi bv bs bw (sym xe ∙ t)

    module _ (t : x ≡ true) where
      inside : bi ≡ true
      inside = sym xe ∙ t

      pub message_there : place + 125 ≤ length image
      message_there = leb-true (place + 125) (length image) inside

      pub away_version : (ver ≡ 1 → ⊥) → refused (MessageVersion ver) ≡ F
      away_version n = is-version ver str bi bv bs bw inside (ap not (ne_eqb ver 1 n))

      module _ (one : ver ≡ 1) where
        pub away_strategy : 3 < str → refused (Strategy str) ≡ F
        away_strategy n = is_strategy ver str bi bv bs bw inside (ap not (eq-eqb ver 1 one)) (lt-ltb 3 str n)

        module _ (few : str ≤ 3) (z : Bool) (ze : z ≡ bw) where
          pub away_way : z ≡ true → refused Place ≡ F
          away_way w = is_way ver str bi bv bs bw inside (ap not (eq-eqb ver 1 one)) (le-ltb 3 str few) (sym ze ∙ w)

          pub away_fine : z ≡ false → answer tt ≡ F
          away_fine w = is-fine ver str bi bv bs bw inside (ap not (eq-eqb ver 1 one)) (le-ltb 3 str few) (sym ze ∙ w)

-- ---- refusal 5, once refusal 3 is past

module _ (xs ys zs : List ℕ) (f : FileLists) (lists : are_lists (lists_in xs ys zs f) ≡ true)
    (cs : List Condition) where
  abbrev share : Condition
  share = when (shared_byte (regions_in (lists_in xs ys zs f))) SharedAddress

  shared_only : together (lists_in xs ys zs f) ≡ first_of (share ∷ []) (answer tt)
  shared_only = first_passes _ NotAList _ _ (ap not lists)

  pub shared-refused : (r : Refusal) → ◌≡◌ {A = Outcome (Unit {0})} (refused r) (together (lists_in xs ys zs f)) → ◌≡◌ {A = Outcome (Unit {0})} (refused r) (first_of (share ∷ cs) (answer tt))
  shared-refused r h =
      first_refuses (share ∷ []) tt r (first_of cs (answer tt)) (h ∙ shared_only) ∙ sym (first-append (share ∷ []) cs (answer tt))

  pub shared-not : answer tt ≡ together (lists_in xs ys zs f) → (o : Outcome (Unit {0})) → o ≡ first_of cs (answer tt) → o ≡ first_of (share ∷ cs) (answer tt)
  shared-not h o q =
      let f = (first_answers (share ∷ []) tt tt (sym shared_only ∙ sym h)).0.0 in
      q ∙ sym (first_passes _ SharedAddress cs (answer tt) f)

-- ---- the early tests among all of them: what they refuse is refused, but for 4; where none holds, the blocks are left to test

module _ (v t : Refusal) (room : Condition) where
  abbrev late : {A : Type 0} → Bool → Bool → Bool → Bool → Bool → Bool → Outcome A → Outcome A
  late s a c d b f y = first_of (when s SharedAddress ∷ when (a && c) v ∷ when (a && d) t ∷ when (not a || (b || f)) Place ∷ room ∷ []) y

  abbrev tests : Bool → Bool → Bool → Bool → Bool → List Condition
  tests s a c d f = when s SharedAddress ∷ when (a && c) v ∷ when (a && d) t ∷ when (not a || f) Place ∷ []

  among : {A : Type 0} (s a c d b f : Bool) (y : Outcome A) → first_of (tests s a c d f) (late s a c d b f y) ≡ late s a c d b f y
  unfolding first_of
  among true a c d b f y = refl
  among false false c d b f y = refl
  among false true true d b f y = refl
  among false true false true b f y = refl
  among false true false false true true y = refl
  among false true false false false true y = refl
  among false true false false b false y = refl

  blocks_left : {A : Type 0} (s a c d b f : Bool) (y : Outcome A) → NoneHolds (tests s a c d f) → late s a c d b f y ≡ first_of (when b Place ∷ room ∷ []) y
  blocks_left s a c d b f y h =
      first_passes _ SharedAddress _ _ h.0 ∙ first_passes _ v _ _ h.1.0 ∙ first_passes _ t _ _ h.1.1.0
      ∙ ap (λ (x : Bool). first_of (when x Place ∷ room ∷ []) y) (only a b f h.1.1.1.0)
    where
      only : (a b f : Bool) → (not a || f) ≡ false → (not a || (b || f)) ≡ b
      only true true f e = refl
      only true false f e = e
      only false b f e = true_not_false true refl e

-- ---- the whole beginning

module _ (ls : Lists) (page start place : ℕ) (image scratch : List ℕ) where
  abbrev whole : Outcome (With Save (List ℕ))
  whole = begun ls page start place image scratch

  abbrev rs : Regions
  rs = regions_in ls

  pub begin_page : page ≡ 0 → left (refused Page) scratch ≡ leaving scratch whole
  unfolding begun
  begin_page z = ap (leaving scratch) (sym (first_holds _ Page _ _ (eq-eqb page 0 z)))

  module _ (n : page ≡ 0 → ⊥) (u : Bool) (ue : u ≡ are_lists ls) where
    pub begin_lists : u ≡ false → left (refused NotAList) scratch ≡ leaving scratch whole
    unfolding begun
    begin_lists t = ap (leaving scratch) (sym (first_passes _ Page _ _ (ne_eqb page 0 n) ∙ first_holds _ NotAList _ _ (ap not (sym ue ∙ t))))

    module _ (t : u ≡ true) where
      pub begin_asks : (0 < page) × (are_lists ls ≡ true)
      begin_asks = (omega arith, sym ue ∙ t)

      regions_only : whole ≡ begun_of rs page start place image scratch
      unfolding begun
      regions_only = first_passes _ Page _ _ (ne_eqb page 0 n) ∙ first_passes _ NotAList _ _ (ap not begin_asks.1) ∙ first-none _

      abbrev y : Outcome (With Save (List ℕ))
      y = answer (with (first_record rs page start place) (filled page start rs scratch))

      abbrev short : Condition
      short = when (ltb (length scratch) (block_len page rs + message_len)) (OverCapacity (block_len page rs + message_len) (length scratch))

      abbrev four : Condition
      four = when (too_large page start rs) Overflow

      in_two : whole ≡ first_of (four ∷ []) (first_of (late_tests rs (block_len page rs) start place image (length scratch)) y)
      unfolding begun_of
      in_two = regions_only ∙ first-append (four ∷ []) (late_tests rs (block_len page rs) start place image (length scratch)) y

      pub begin_early : (r : Refusal) → ◌≡◌ {A = Outcome (Unit {0})} (refused r) (first_of (early_tests rs start place image) (answer tt)) → (q : Refusal) → ◌≡◌ {A = Outcome Save} (refused q) (first_of (four ∷ []) (refused r))
          → left (refused q) scratch ≡ leaving scratch whole
      unfolding first_of
      begin_early r h q e =
          let l : refused r ≡ first_of (late_tests rs (block_len page rs) start place image (length scratch)) y =
          first_refuses (early_tests rs start place image) tt r _ h
          ∙ among (MessageVersion (get_or image place 0)) (Strategy (get_or image (place + 1) 0)) short (shared_byte rs) (message_in place image) (not (eqb (get_or image place 0) 1)) (ltb 3 (get_or image (place + 1) 0)) (blocks_out (block_len page rs) start place image) (any_in_the_way start place rs) y in
          ap (leaving scratch) (alike (too_large page start rs) e ∙ ap (first_of (four ∷ [])) l ∙ sym in_two)
        where
          alike : (t : Bool) → ◌≡◌ {A = Outcome Save} (refused q) (first_of (when t Overflow ∷ []) (refused r)) → ◌≡◌ {A = Outcome (With Save (List ℕ))} (refused q) (first_of (when t Overflow ∷ []) (refused r))
          alike true e =
              let n : number_of q ≡ 4 = cc in
              let v : values_of q ≡ [] = cc in
              ap₂ refuse n v
          alike false e =
              let n : number_of q ≡ number_of r = cc in
              let v : values_of q ≡ values_of r = cc in
              ap₂ refuse n v

      module _ (h : ◌≡◌ {A = Outcome (Unit {0})} (answer tt) (first_of (early_tests rs start place image) (answer tt))) where
        none : NoneHolds (early_tests rs start place image)
        none = (first_answers (early_tests rs start place image) tt tt (sym h)).0

        pub begin_apart : shared_byte rs ≡ false
        begin_apart = none.0

        pub begin_message : message_in place image ≡ true
        begin_message = not-false (message_in place image) (or_false (not (message_in place image)) (any_in_the_way start place rs) none.1.1.1.0).0

        pub begin_after : leaving scratch (begun_after rs page start place image scratch) ≡ leaving scratch whole
        unfolding begun_after
        begin_after =
            ap (leaving scratch)
            (first-append (four ∷ []) (when (blocks_out (block_len page rs) start place image) Place ∷ short ∷ []) y
            ∙ ap (first_of (four ∷ []))
            (sym (blocks_left (MessageVersion (get_or image place 0)) (Strategy (get_or image (place + 1) 0)) short (shared_byte rs) (message_in place image) (not (eqb (get_or image place 0) 1)) (ltb 3 (get_or image (place + 1) 0)) (blocks_out (block_len page rs) start place image)
            (any_in_the_way start place rs) y none))
            ∙ sym in_two)
