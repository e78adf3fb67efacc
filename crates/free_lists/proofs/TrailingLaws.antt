-- Laws of the walk of `trailing_run_start`: the highest of the last regions of three lists is the next one by falling address. Assumes nothing.
--   Below     every region begins below a place
--   Last      the last of n regions, and what it tells of those before it
--   Heights   the code has the heights of three lists
--   Walking   the walk has come to a start, with these regions to come
use mathlib.Core.Path.{◌≡◌, refl, sym, ap, ◌∙◌, subst}
use mathlib.Core.List.{List, [], ◌∷◌, ◌++◌, append_assoc, append-nil}
use mathlib.Core.Bool.{Bool, true, false, cond}
use Prim.Native.Nat.{ℕ, zero, suc, ◌-◌, ◌≤◌, ◌<◌, min, max}
use native.Mathlib.Omega.{arith}
use borrow.Author.Tests.{le-leb, lt-leb, lt-ltb, le-ltb}
use lib.Dec.{leb, ltb}
use Rattle.error.proofs.TestLaws.{and_true}
use Rattle.fields.specs.Ranges.{top}
use Rattle.free_regions.specs.declared.FreeRegion.{FreeRegion}
use Rattle.free_regions.specs.Regions.{region, end, fits_from, ok_from}
use Rattle.free_regions.proofs.OkLaws.{fit}
use Rattle.free_space.specs.Runs.{region_at, decode}
use Rattle.pairs.proofs.PairLaws.{decode-last}
use Rattle.free_lists.specs.declared.Cursors.{Cursors}
use Rattle.free_lists.specs.Trailing.{put, falling, walk}
use Rattle.free_lists.specs.Walks.{InOrder, AllInOrder, remaining, height, Next}
use Rattle.free_lists.proofs.SharingLaws.{in_order-less, order-fits}

-- ---- by falling address

abbrev pub Below : ℕ → List FreeRegion → Type 0
Below x [] = Unit {0}
Below x (r ∷ rs) = (r.addr < x) × Below x rs

below-append : (x : ℕ) (ps qs : List FreeRegion) → Below x ps → Below x qs → Below x (ps ++ qs)
below-append x [] qs p q = q
below-append x (r ∷ ps) qs p q = (p.0, below-append x ps qs p.1 q)

below_more : (x y : ℕ) (ps : List FreeRegion) → x ≤ y → Below x ps → Below y ps
below_more x y [] h b = tt
below_more x y (r ∷ ps) h b = (omega (arith, b.0), below_more x y ps h b.1)

put-below : (x : ℕ) (r : FreeRegion) (ss : List FreeRegion) → r.addr < x → Below x ss → Below x (put r ss)
put-below x r [] h b = (h, tt)
put-below x r (s ∷ ss) h b = go (leb s.addr r.addr) (put-below x r ss h b.1)
  where
    go : (t : Bool) → Below x (put r ss) → Below x (cond t (r ∷ s ∷ ss) (s ∷ put r ss))
    go true ih = (h, (b.0, b.1))
    go false ih = (b.0, ih)

falling-below : (x : ℕ) (rs : List FreeRegion) → Below x rs → Below x (falling rs)
falling-below x [] b = tt
falling-below x (r ∷ rs) b = put-below x r (falling rs) b.0 (falling-below x rs b.1)

put_first : (r : FreeRegion) (ss : List FreeRegion) → Below (suc r.addr) ss → put r ss ≡ r ∷ ss
put_first r [] b = refl
put_first r (s ∷ ss) b = rw (le-leb s.addr r.addr (omega arith))

-- a region above those before it, and not below those after it, comes first
falling_pick : (r : FreeRegion) (ps qs : List FreeRegion) → Below r.addr ps → Below (suc r.addr) qs → falling (ps ++ (r ∷ qs)) ≡ r ∷ falling (ps ++ qs)
falling_pick r [] qs p q = put_first r (falling qs) (falling-below (suc r.addr) qs q)
falling_pick r (s ∷ ps) qs p q = ap (put s) (falling_pick r ps qs p.1 q) ∙ rw (lt-leb r.addr s.addr p.0)

-- ---- the last region of a list

below_last : (low : ℕ) (ps : List FreeRegion) (r : FreeRegion) → ok_from low (ps ++ (r ∷ [])) ≡ true → Below r.addr ps × (low ≤ r.addr)
below_last low [] r e = (tt, (fit low r (and_true (fits_from low r) true e).0).above)
below_last low (q ∷ ps) r e =
    let p = and_true (fits_from low q) (ok_from (suc (end q)) (ps ++ (r ∷ []))) e in
    let f = fit low q p.0 in
    let ih = below_last (suc (end q)) ps r p.1 in
    ((omega (arith, ih.1), ih.0), omega (arith, ih.1))

pub record Last (xs : List ℕ) (n p : ℕ) (r : FreeRegion) : Type 0 where
  pub less : InOrder xs p
  pub some : 0 < r.len
  pub within : end r ≤ top
  pub high : height n xs ≡ suc r.addr
  pub whole : decode n xs ≡ decode p xs ++ (r ∷ [])
  pub below : Below r.addr (decode p xs)

pub last_of : {xs : List ℕ} {n : ℕ} (p : ℕ) (r : FreeRegion) → InOrder xs n → suc p ≡ n → r ≡ region_at xs p → Last xs n p r
last_of {xs} {n} p r o e is =
    let o' : InOrder xs (suc p) = subst (InOrder xs) (sym e) o in
    let w : decode (suc p) xs ≡ decode p xs ++ (r ∷ []) =
    decode-last region p xs o'.room ∙ ap (λ (q : FreeRegion). decode p xs ++ (q ∷ [])) (sym is) in
    record {
      less = in_order-less p (omega arith) o;
      some = (order-fits o p r is (omega arith)).some;
      within = (order-fits o p r is (omega arith)).within;
      high = ap (λ (k : ℕ). height k xs) (sym e) ∙ ap (λ (q : FreeRegion). suc q.addr) (sym is);
      whole = ap (λ (k : ℕ). decode k xs) (sym e) ∙ w;
      below = (below_last 0 (decode p xs) r (sym (ap (ok_from 0) w) ∙ o'.ok)).0;
    }

-- all of them begin below their height
below-height : (n : ℕ) (xs : List ℕ) → InOrder xs n → Below (height n xs) (decode n xs)
below-height zero xs o = tt
below-height (suc n) xs o =
    let r = region_at xs n in
    let l = last_of n r o refl refl in
    subst (Below (suc r.addr)) (sym l.whole) (below-append (suc r.addr) (decode n xs) (r ∷ [])
    (below_more r.addr (suc r.addr) (decode n xs) (omega arith) l.below) (omega arith, tt))

pub height-none : (n : ℕ) (xs : List ℕ) → height n xs ≡ 0 → n ≡ 0
height-none zero xs e = refl
height-none (suc n) xs e = absurd (omega arith)

pub height-some : (n : ℕ) (xs : List ℕ) → 0 < height n xs → 0 < n
height-some zero xs h = h
height-some (suc n) xs h = omega arith

-- ---- the next region

-- the last region of a list, above those of the lists before it and not below those of the lists after it
pick : (bs : List FreeRegion) {xs : List ℕ} {n p : ℕ} {r : FreeRegion} (cs : List FreeRegion) → Last xs n p r → Below r.addr bs → Below (suc r.addr) cs
    → falling (bs ++ (decode n xs ++ cs)) ≡ r ∷ falling (bs ++ (decode p xs ++ cs))
pick bs {xs} {n} {p} {r} cs l b a =
    ap (λ (k : List FreeRegion). falling (bs ++ (k ++ cs))) l.whole
    ∙ ap (λ (k : List FreeRegion). falling (bs ++ k)) (append_assoc (decode p xs) (r ∷ []) cs)
    ∙ ap falling (sym (append_assoc bs (decode p xs) (r ∷ cs)))
    ∙ falling_pick r (bs ++ decode p xs) cs (below-append r.addr bs (decode p xs) b l.below) a
    ∙ ap (λ (k : List FreeRegion). r ∷ falling k) (append_assoc bs (decode p xs) cs)

-- a list whose regions all begin below a place
under : (n : ℕ) (xs : List ℕ) (x : ℕ) → InOrder xs n → height n xs ≤ x → Below x (decode n xs)
under n xs x o h = below_more (height n xs) x (decode n xs) h (below-height n xs o)

pub record Heights (xs ys zs : List ℕ) (at : Cursors) (a b c : ℕ) : Type 0 where
  pub order : AllInOrder xs ys zs at
  pub meta : a ≡ height at.meta xs
  pub raw : b ≡ height at.raw ys
  pub unclassified : c ≡ height at.unclassified zs

pub heights : {xs ys zs : List ℕ} {at : Cursors} {a b c : ℕ} → AllInOrder xs ys zs at → a ≡ height at.meta xs → b ≡ height at.raw ys → c ≡ height at.unclassified zs
    → Heights xs ys zs at a b c
heights o e f g = record { order = o; meta = e; raw = f; unclassified = g }

module _ {xs ys zs : List ℕ} {at : Cursors} {a b c : ℕ} (h : Heights xs ys zs at a b c) where
  pub reached_none : max b c ≤ a → a ≡ 0 → remaining xs ys zs at ≡ []
  reached_none l z =
      let i : at.meta ≡ 0 = height-none at.meta xs (omega arith) in
      let j : at.raw ≡ 0 = height-none at.raw ys (omega arith) in
      let k : at.unclassified ≡ 0 = height-none at.unclassified zs (omega arith) in
      rw (i, j, k)

  pub some-meta : (a ≡ 0 → ⊥) → 0 < at.meta
  some-meta n = height-some at.meta xs (omega arith)

  pub some-raw : a < max b c → c ≤ b → 0 < at.raw
  some-raw l k = height-some at.raw ys (omega arith)

  pub some-unclassified : a < max b c → b < c → 0 < at.unclassified
  some-unclassified l k = height-some at.unclassified zs (omega arith)

  module _ (r : FreeRegion) where
    pub next-meta : r ≡ region_at xs (at.meta - 1) → max b c ≤ a → (a ≡ 0 → ⊥)
        → Next xs ys zs at r (record { meta = at.meta - 1; raw = at.raw; unclassified = at.unclassified })
    next-meta is l n =
        let o = h.order in
        let s = some-meta n in
        let t = last_of (at.meta - 1) r o.meta (omega arith) is in
        let x = suc r.addr in record {
          first = pick [] (decode at.raw ys ++ decode at.unclassified zs) t tt (below-append x (decode at.raw ys) (decode at.unclassified zs)
              (under at.raw ys x o.raw (omega (arith, t.high))) (under at.unclassified zs x o.unclassified (omega (arith, t.high))));
          within = t.within;
          fewer = omega arith;
          order = record { meta = t.less; raw = o.raw; unclassified = o.unclassified };
        }

    pub next-raw : r ≡ region_at ys (at.raw - 1) → a < max b c → c ≤ b
        → Next xs ys zs at r (record { meta = at.meta; raw = at.raw - 1; unclassified = at.unclassified })
    next-raw is l k =
        let o = h.order in
        let s = some-raw l k in
        let t = last_of (at.raw - 1) r o.raw (omega arith) is in record {
          first = pick (decode at.meta xs) (decode at.unclassified zs) t (under at.meta xs r.addr o.meta (omega (arith, t.high)))
              (under at.unclassified zs (suc r.addr) o.unclassified (omega (arith, t.high)));
          within = t.within;
          fewer = omega arith;
          order = record { meta = o.meta; raw = t.less; unclassified = o.unclassified };
        }

    pub next-unclassified : r ≡ region_at zs (at.unclassified - 1) → a < max b c → b < c
        → Next xs ys zs at r (record { meta = at.meta; raw = at.raw; unclassified = at.unclassified - 1 })
    next-unclassified is l k =
        let o = h.order in
        let s = some-unclassified l k in
        let t = last_of (at.unclassified - 1) r o.unclassified (omega arith) is in
        let m = decode at.meta xs in
        let w = decode at.raw ys in
        let join : (u : List FreeRegion) → (m ++ w) ++ (u ++ []) ≡ m ++ (w ++ u) =
        λ u. append_assoc m w (u ++ []) ∙ ap (λ (v : List FreeRegion). m ++ (w ++ v)) (append-nil u) in
        let above : Below r.addr (m ++ w) = below-append r.addr m w
        (under at.meta xs r.addr o.meta (omega (arith, t.high))) (under at.raw ys r.addr o.raw (omega (arith, t.high))) in record {
          first = sym (ap falling (join (decode at.unclassified zs))) ∙ pick (m ++ w) [] t above tt
              ∙ ap (λ (v : List FreeRegion). r ∷ falling v) (join (decode (at.unclassified - 1) zs));
          within = t.within;
          fewer = omega arith;
          order = record { meta = o.meta; raw = o.raw; unclassified = t.less };
        }

-- ---- an iteration of the walk

pub record Walking (xs ys zs : List ℕ) (eof : ℕ) (all : Cursors) (start : ℕ) (at : Cursors) : Type 0 where
  pub order : AllInOrder xs ys zs at
  pub same : walk start (falling (remaining xs ys zs at)) ≡ walk eof (falling (remaining xs ys zs all))

module _ {xs ys zs : List ℕ} {eof : ℕ} {all : Cursors} {start : ℕ} {at : Cursors} (w : Walking xs ys zs eof all start at) where
  pub walk_done : remaining xs ys zs at ≡ [] → start ≡ walk eof (falling (remaining xs ys zs all))
  walk_done e = sym (ap (λ (l : List FreeRegion). walk start (falling l)) e) ∙ w.same

  module _ {r : FreeRegion} {rest : Cursors} (n : Next xs ys zs at r rest) where
    iteration : (t : Bool) → ltb (end r) start ≡ t → cond t start (walk (min start r.addr) (falling (remaining xs ys zs rest))) ≡ walk eof (falling (remaining xs ys zs all))
    iteration t e =
        sym (ap (walk start) n.first ∙ ap (λ (b : Bool). cond b start (walk (min start r.addr) (falling (remaining xs ys zs rest)))) e)
        ∙ w.same

    pub walk-stop : end r < start → start ≡ walk eof (falling (remaining xs ys zs all))
    walk-stop h = iteration true (lt-ltb (end r) start h)

    pub walk-on : (k : ℕ) → start ≤ end r → k ≡ min start r.addr → Walking xs ys zs eof all k rest
    walk-on k h e = record {
      order = n.order;
      same = ap (λ (s : ℕ). walk s (falling (remaining xs ys zs rest))) e ∙ iteration false (le-ltb (end r) start h);
    }
