-- In a legal log the records of a page have the LRCs 1, 2 and so on, without gaps; what is read from a slot on, with a copy that has the records before it, says the same.
use Rattle.std.proofs.Common.{◌≡◌, ℕ, suc, pred, ◌<◌, ◌≤◌, Bool, true, false, cond, ◌&&◌, eqb, ltb, leb, [], ◌∷◌, length, is_some, Some, None, Option, sym, refl, ap, ◌∙◌, subst, arith}
use Rattle.std.proofs.lemmas.Bool.{eqb-true, leb-false, ltb-true, ltb-false, lt-ltb, le-ltb}
use Rattle.std.proofs.lemmas.Bool.Decides.{nat_tests}
use Rattle.format.specs.declared.slot.Slot.{Slot}
use Rattle.format.specs.declared.slot.Slot.TheVariants.{Record, Job, Checkpoint}
use Rattle.format.specs.declared.slot.PageRecord.{PageRecord}
use Rattle.recovery_log.specs.Log.{Log, new_number, newest_lrc}
use Rattle.rules.specs.Reading.{up_to}
use Rattle.rules.specs.Playing.{first_lacked, lacks, last_lrc, or_else}
use Rattle.promises.proofs.Legal.{count, Legal, Recorded, Older, same, more, masked}

or_none : (o : Option ℕ) → or_else o None ≡ o
or_none None = refl
or_none (Some x) = refl

module _ {C : Type 0} where
  -- How counts grow with the log

  pub count_more : (s : Option (Slot C)) (L : Log C) (p : ℕ) → count L p ≤ count (s ∷ L) p
  count_more None L p = omega arith
  count_more (Some (Record r)) L p = grind (arith, nat_tests)
  count_more (Some (Job e j)) L p = omega arith
  count_more (Some (Checkpoint c)) L p = omega arith

  count_one : (s : Option (Slot C)) (L : Log C) (p : ℕ) → count (s ∷ L) p ≤ suc (count L p)
  count_one None L p = omega arith
  count_one (Some (Record r)) L p = grind (arith, nat_tests)
  count_one (Some (Job e j)) L p = omega arith
  count_one (Some (Checkpoint c)) L p = omega arith

  pub count_length : (L : Log C) (p : ℕ) → count L p ≤ length L
  count_length [] p = omega arith
  count_length (s ∷ L) p = omega (arith, count_length L p, count_one s L p)

  pub count_older : (M L : Log C) (p : ℕ) → Older M L → count M p ≤ count L p
  count_older M L p same = omega arith
  count_older M L p (more {s = s} {L = K} h) = omega (arith, count_older M K p h, count_more s K p)

  pub up_to_whole : (n : ℕ) (L : Log C) → length L ≤ n → up_to n L ≡ L
  up_to_whole n [] h = refl
  up_to_whole n (s ∷ L) h = grind (arith, nat_tests)

  pub up_to_less : (n : ℕ) (s : Option (Slot C)) (L : Log C) → n ≤ length L → up_to n (s ∷ L) ≡ up_to n L
  up_to_less n s L h = grind (arith, nat_tests)

  pub up_to_older : (n : ℕ) (L : Log C) → Older (up_to n L) L
  up_to_older n [] = same
  up_to_older n (s ∷ L) = go (leb (new_number L) n) (up_to_older n L)
    where
      go : (t : Bool) → Older (up_to n L) L → Older (cond t (s ∷ L) (up_to n L)) (s ∷ L)
      go true h = same
      go false h = more h

  pub count_up_to : (n k : ℕ) (L : Log C) (p : ℕ) → n ≤ k → count (up_to n L) p ≤ count (up_to k L) p
  count_up_to n k [] p h = omega arith
  count_up_to n k (s ∷ L) p h = go (leb (new_number L) k) refl (count_up_to n k L p h)
    where
      go : (t : Bool) → leb (new_number L) k ≡ t → count (up_to n L) p ≤ count (up_to k L) p → count (up_to n (s ∷ L)) p ≤ count (up_to k (s ∷ L)) p
      go true e q = rw e (count_older (up_to n (s ∷ L)) (s ∷ L) p (up_to_older n (s ∷ L)))
      go false e q = rw (e, up_to_less n s L (omega (arith, leb-false _ _ e))) q

  -- one slot more, up to a number
  pub up_to_more : (n : ℕ) (s : Option (Slot C)) (L : Log C) (p : ℕ) → count (up_to n L) p ≤ count (up_to n (s ∷ L)) p
  up_to_more n s L p = go (leb (new_number L) n) refl
    where
      go : (t : Bool) → leb (new_number L) n ≡ t → count (up_to n L) p ≤ count (up_to n (s ∷ L)) p
      go true e = rw e (omega (arith, count_older (up_to n L) L p (up_to_older n L), count_more s L p))
      go false e = rw e (omega arith)

  -- a slot that is not read, or says nothing, changes nothing
  pub unread : {X : Type 0} (f : Log C → X) (t : Bool) (s : Option (Slot C)) (M : Log C) → f (None ∷ M) ≡ f M → f (s ∷ M) ≡ f M → f (cond t None s ∷ M) ≡ f M
  unread f true s M a b = a
  unread f false s M a b = b

  pub masked_length : (first : ℕ) (L : Log C) → length (masked first L) ≡ length L
  masked_length first [] = refl
  masked_length first (s ∷ L) = ap suc (masked_length first L)

  -- no record is read of a log that ends before the first slot read
  newest_unread : (first : ℕ) (L : Log C) (p : ℕ) → length L < first → newest_lrc (masked first L) p ≡ None
  newest_unread first [] p h = refl
  newest_unread first (s ∷ L) p h = rw (lt-ltb (new_number L) first h) (newest_unread first L p (omega arith))

module _ {C : Type 0} (size capacity : ℕ) where
  pub count_inside : (L : Log C) (p : ℕ) → Legal size capacity L → size ≤ p → count L p ≡ 0
  count_inside [] p h e = refl
  count_inside (None ∷ L) p h e = absurd h.1
  count_inside (Some (Record r) ∷ L) p h e = let k = count_inside L p h.0 e in let n = h.1.inside in grind (arith, nat_tests)
  count_inside (Some (Job a j) ∷ L) p h e = count_inside L p h.0 e
  count_inside (Some (Checkpoint c) ∷ L) p h e = count_inside L p h.0 e

  -- Read from a slot on, with a copy that has every record before it

  -- a record of the page that is not read is in the copy
  pub unread_old : (first : ℕ) (L : Log C) (r : PageRecord C) (c : ℕ) → Recorded size L r → count (up_to (pred first) (Some (Record r) ∷ L)) r.page ≤ c → new_number L < first → r.lrc ≤ c
  unread_old first L r c h le n =
      let whole = up_to_whole (pred first) (Some (Record r) ∷ L) (omega arith) in
      let more' : suc (count L r.page) ≤ count (Some (Record r) ∷ L) r.page = grind (arith, nat_tests) in
      let le' = subst (λ M. count M r.page ≤ c) whole le in
      omega (arith, h.numbered)

  pub first_lacked_masked : (first : ℕ) (L : Log C) (p c : ℕ) → Legal size capacity L → count (up_to (pred first) L) p ≤ c → first_lacked p c (masked first L) ≡ first_lacked p c L
  first_lacked_masked first [] p c h le = refl
  first_lacked_masked first (None ∷ L) p c h le = absurd h.1
  first_lacked_masked first (Some (Record r) ∷ L) p c h le =
      go (ltb (new_number L) first) refl (eqb r.page p) refl (first_lacked_masked first L p c h.0 (omega (arith, up_to_more (pred first) (Some (Record r)) L p)))
    where
      go : (t : Bool) → ltb (new_number L) first ≡ t → (u : Bool) → eqb r.page p ≡ u → first_lacked p c (masked first L) ≡ first_lacked p c L
          → first_lacked p c (masked first (Some (Record r) ∷ L)) ≡ first_lacked p c (Some (Record r) ∷ L)
      go false e u f k = rw (e, k, masked_length first L)
      go true e true f k =
          let old : r.lrc ≤ c = unread_old first L r c h.1 (subst (λ q. count (up_to (pred first) (Some (Record r) ∷ L)) q ≤ c) (sym (eqb-true _ _ f)) le) (ltb-true _ _ e) in
          rw (e, f, le-ltb c r.lrc old, or_none (first_lacked p c L)) k
      go true e false f k = rw (e, f, or_none (first_lacked p c L)) k
  first_lacked_masked first (Some (Job a j) ∷ L) p c h le =
      unread (first_lacked p c) (ltb (new_number L) first) (Some (Job a j)) (masked first L) refl refl
      ∙ first_lacked_masked first L p c h.0 (omega (arith, up_to_more (pred first) (Some (Job a j)) L p))
  first_lacked_masked first (Some (Checkpoint x) ∷ L) p c h le =
      unread (first_lacked p c) (ltb (new_number L) first) (Some (Checkpoint x)) (masked first L) refl refl
      ∙ first_lacked_masked first L p c h.0 (omega (arith, up_to_more (pred first) (Some (Checkpoint x)) L p))

  pub last_masked : (first : ℕ) (L : Log C) (p c : ℕ) → Legal size capacity L → count (up_to (pred first) L) p ≤ c → c ≤ count L p → last_lrc p c (masked first L) ≡ count L p
  last_masked first [] p c h le has = omega arith
  last_masked first (None ∷ L) p c h le has = absurd h.1
  last_masked first (Some (Record r) ∷ L) p c h le has = go (ltb (new_number L) first) refl (eqb r.page p) refl (last_masked first L p c h.0 (omega (arith, up_to_more (pred first) (Some (Record r)) L p)))
    where
      s : Option (Slot C)
      s = Some (Record r)

      go : (t : Bool) → ltb (new_number L) first ≡ t → (u : Bool) → eqb r.page p ≡ u → (c ≤ count L p → last_lrc p c (masked first L) ≡ count L p) → last_lrc p c (masked first (s ∷ L)) ≡ count (s ∷ L) p
      go true e u f k =
          let whole = up_to_whole (pred first) (s ∷ L) (omega (arith, ltb-true _ _ e)) in
          let le' = subst (λ M. count M p ≤ c) whole le in
          rw (newest_unread first (s ∷ L) p (ltb-true _ _ e)) (omega arith)
      go false e true f k = rw (e, f) (h.1.numbered ∙ ap (λ q. suc (count L q)) (eqb-true _ _ f))
      go false e false f k = rw (e, f) (k (subst (λ t. c ≤ cond t (suc (count L p)) (count L p)) f has))
  last_masked first (Some (Job a j) ∷ L) p c h le has =
      unread (last_lrc p c) (ltb (new_number L) first) (Some (Job a j)) (masked first L) refl refl
      ∙ last_masked first L p c h.0 (omega (arith, up_to_more (pred first) (Some (Job a j)) L p)) has
  last_masked first (Some (Checkpoint x) ∷ L) p c h le has =
      unread (last_lrc p c) (ltb (new_number L) first) (Some (Checkpoint x)) (masked first L) refl refl
      ∙ last_masked first L p c h.0 (omega (arith, up_to_more (pred first) (Some (Checkpoint x)) L p)) has

  pub lacks_whole : (L : Log C) (p c : ℕ) → Legal size capacity L → lacks p c L ≡ ltb c (count L p)
  lacks_whole [] p c h = sym (le-ltb c 0 (omega arith))
  lacks_whole (None ∷ L) p c h = absurd h.1
  lacks_whole (Some (Record r) ∷ L) p c h = go (first_lacked p c L) (lacks_whole L p c h.0) h.1.numbered
    where
      go : (o : Option ℕ) → is_some o ≡ ltb c (count L p) → r.lrc ≡ suc (count L r.page)
          → is_some (or_else o (cond (eqb r.page p && ltb c r.lrc) (Some (new_number L)) None)) ≡ ltb c (cond (eqb r.page p) (suc (count L p)) (count L p))
      go None k n = grind (arith, nat_tests)
      go (Some x) k n = grind (arith, nat_tests)
  lacks_whole (Some (Job a j) ∷ L) p c h = lacks_whole L p c h.0
  lacks_whole (Some (Checkpoint x) ∷ L) p c h = lacks_whole L p c h.0

  pub lacks_masked : (first : ℕ) (L : Log C) (p c : ℕ) → Legal size capacity L → count (up_to (pred first) L) p ≤ c → lacks p c (masked first L) ≡ ltb c (count L p)
  lacks_masked first L p c h le = ap is_some (first_lacked_masked first L p c h le) ∙ lacks_whole L p c h

  pub first_lacked_none : (L : Log C) (p c : ℕ) → Legal size capacity L → first_lacked p c L ≡ None → count L p ≤ c
  first_lacked_none L p c h e = ltb-false c (count L p) (sym (lacks_whole L p c h) ∙ ap is_some e)

  pub first_lacked_lower : (L : Log C) (p c s : ℕ) → Legal size capacity L → first_lacked p c L ≡ Some s → c < count L p
  first_lacked_lower L p c s h e = ltb-true c (count L p) (sym (lacks_whole L p c h) ∙ ap is_some e)

  pub first_lacked_some : (L : Log C) (p c s : ℕ) → Legal size capacity L → first_lacked p c L ≡ Some s → (1 ≤ s) × (s ≤ length L) × (count (up_to (pred s) L) p ≤ c)
  first_lacked_some [] p c s h e = let z : ◌≡◌ {A = ℕ} 0 1 = cc in absurd (omega arith)
  first_lacked_some (None ∷ L) p c s h e = absurd h.1
  first_lacked_some (Some (Record r) ∷ L) p c s h e = go (first_lacked p c L) refl (first_lacked_some L p c s h.0) (first_lacked_none L p c h.0)
    where
      go : (o : Option ℕ) → first_lacked p c L ≡ o → (first_lacked p c L ≡ Some s → (1 ≤ s) × (s ≤ length L) × (count (up_to (pred s) L) p ≤ c)) → (first_lacked p c L ≡ None → count L p ≤ c)
          → (1 ≤ s) × (s ≤ suc (length L)) × (count (up_to (pred s) (Some (Record r) ∷ L)) p ≤ c)
      go (Some x) q k none =
          let e' : or_else (Some x) (cond (eqb r.page p && ltb c r.lrc) (Some (new_number L)) None) ≡ Some s = subst (λ o. or_else o (cond (eqb r.page p && ltb c r.lrc) (Some (new_number L)) None) ≡ Some s) q e in
          let k' = k (q ∙ e') in
          (k'.0, omega arith, rw (up_to_less (pred s) (Some (Record r)) L (omega arith)) k'.2)
      go None q k none =
          let e' : cond (eqb r.page p && ltb c r.lrc) (Some (new_number L)) None ≡ Some s = subst (λ o. or_else o (cond (eqb r.page p && ltb c r.lrc) (Some (new_number L)) None) ≡ Some s) q e in
          own (eqb r.page p && ltb c r.lrc) e' (none q)
        where
          own : (t : Bool) → cond t (Some (new_number L)) None ≡ Some s → count L p ≤ c → (1 ≤ s) × (s ≤ suc (length L)) × (count (up_to (pred s) (Some (Record r) ∷ L)) p ≤ c)
          own false e' z = let z : ◌≡◌ {A = ℕ} 0 1 = cc in absurd (omega arith)
          own true e' z =
              let n : suc (length L) ≡ s = cc in
              (omega arith, omega arith, rw (up_to_less (pred s) (Some (Record r)) L (omega arith), up_to_whole (pred s) L (omega arith)) z)
  first_lacked_some (Some (Job a j) ∷ L) p c s h e =
      let k = first_lacked_some L p c s h.0 e in
      (k.0, omega arith, rw (up_to_less (pred s) (Some (Job a j)) L (omega arith)) k.2)
  first_lacked_some (Some (Checkpoint x) ∷ L) p c s h e =
      let k = first_lacked_some L p c s h.0 e in
      (k.0, omega arith, rw (up_to_less (pred s) (Some (Checkpoint x)) L (omega arith)) k.2)
