-- A page with its records up to an LRC: its LRC and its content; older logs have the same; playing records from a slot on gives it.
use Rattle.std.proofs.Common.{◌≡◌, ℕ, zero, suc, pred, ◌<◌, ◌≤◌, Bool, true, false, cond, eqb, ltb, leb, List, [], ◌∷◌, get_or, replicate, Some, None, Option, sym, refl, ap, ◌∙◌, subst, arith}
use Rattle.std.proofs.lemmas.Bool.{eq-eqb, le-leb, lt-ltb, le-ltb, ltb-true, ltb-false, leb-true}
use Rattle.std.proofs.lemmas.Bool.Decides.{nat_tests}
use Rattle.format.specs.declared.page.Page.{Page}
use Rattle.format.specs.declared.slot.Slot.{Slot}
use Rattle.format.specs.declared.slot.Slot.TheVariants.{Record, Job, Checkpoint}
use Rattle.format.specs.declared.slot.PageRecord.{PageRecord}
use Rattle.format.specs.declared.slot.Action.{Action}
use Rattle.format.specs.declared.slot.Action.TheVariants.{Put, TakeBack}
use Rattle.format.specs.declared.slot.JobEvent.{JobEvent}
use Rattle.format.specs.declared.slot.CheckpointPart.{CheckpointPart}
use Rattle.format.specs.Changes.{Meaning, Lawful, Content}
use Rattle.format.specs.Pages.{blank_page}
use Rattle.recovery_log.specs.Log.{Log, new_number}
use Rattle.rules.specs.Reading.{up_to}
use Rattle.rules.specs.Playing.{acted, play, played, of_page, up_to_lrc}
use Rattle.promises.proofs.Legal.{count, image, whole_page, after_record, Legal, Recorded, Older, same, more, masked}
use Rattle.promises.proofs.PageCounts.{count_more, count_older, unread, unread_old, up_to_more}

module _ {C : Type 0} (size : ℕ) where
  -- a record is none of those up to the count before it, and is one of those up to the count with it
  after_those : (L : Log C) (r : PageRecord C) (p k : ℕ) → Recorded size L r → k ≤ count L p → up_to_lrc p k r ≡ false
  after_those L r p k h le = let n = h.numbered in grind (arith, nat_tests)

  among_those : (L : Log C) (r : PageRecord C) (p k : ℕ) → Recorded size L r → count (Some (Record r) ∷ L) p ≤ k → up_to_lrc p k r ≡ of_page p r
  among_those L r p k h le = let n = h.numbered in grind (arith, nat_tests)

module _ {C : Type 0} (size capacity : ℕ) (m : Meaning C) where
  -- Older logs

  pub image_more : (s : Option (Slot C)) (L : Log C) (p k : ℕ) → Legal size capacity (s ∷ L) → k ≤ count L p → image m (s ∷ L) p k ≡ image m L p k
  image_more None L p k h le = refl
  image_more (Some (Record r)) L p k h le = rw (after_those size L r p k h.1 le)
  image_more (Some (Job e j)) L p k h le = refl
  image_more (Some (Checkpoint c)) L p k h le = refl

  pub image_older : (M L : Log C) (p k : ℕ) → Older M L → Legal size capacity L → k ≤ count M p → image m L p k ≡ image m M p k
  image_older M L p k same h le = refl
  image_older M L p k (more {s = s} {L = K} o) h le = image_more s K p k h (omega (arith, count_older M K p o)) ∙ image_older M K p k o h.0 le

  -- from the count on there are no more
  pub image_above : (L : Log C) (p k l : ℕ) → Legal size capacity L → count L p ≤ k → count L p ≤ l → image m L p k ≡ image m L p l
  image_above [] p k l h a b = refl
  image_above (None ∷ L) p k l h a b = absurd h.1
  image_above (Some (Record r) ∷ L) p k l h a b =
      let below = count_more (Some (Record r)) L p in
      rw (among_those size L r p k h.1 a, among_those size L r p l h.1 b, image_above L p k l h.0 (omega arith) (omega arith))
  image_above (Some (Job e j) ∷ L) p k l h a b = image_above L p k l h.0 a b
  image_above (Some (Checkpoint c) ∷ L) p k l h a b = image_above L p k l h.0 a b

  -- What an image is

  pub image_lrc : (L : Log C) (p k : ℕ) → Legal size capacity L → k ≤ count L p → (image m L p k).lrc ≡ k
  image_lrc [] p k h le = omega arith
  image_lrc (None ∷ L) p k h le = absurd h.1
  image_lrc (Some (Record r) ∷ L) p k h le = go (leb k (count L p)) refl (image_lrc L p k h.0)
    where
      go : (t : Bool) → leb k (count L p) ≡ t → (k ≤ count L p → (image m L p k).lrc ≡ k) → (image m (Some (Record r) ∷ L) p k).lrc ≡ k
      go true e old = ap (λ x. x.lrc) (image_more (Some (Record r)) L p k h (leb-true _ _ e)) ∙ old (leb-true _ _ e)
      go false e old =
          let n = h.1.numbered in
          let l : r.lrc ≡ k = grind (arith, nat_tests) in
          let t : up_to_lrc p k r ≡ true = grind (arith, nat_tests) in
          rw t l
  image_lrc (Some (Job e j) ∷ L) p k h le = image_lrc L p k h.0 le
  image_lrc (Some (Checkpoint c) ∷ L) p k h le = image_lrc L p k h.0 le

  -- Playing

  -- the log read from a slot on, with one record less
  module _ (first : ℕ) (wanted : PageRecord C → Bool) (L : Log C) (copy : Page) where
    read_record : (r : PageRecord C) → ltb (new_number L) first ≡ false → wanted r ≡ true → played m wanted (masked first (Some (Record r) ∷ L)) copy ≡ play m r (played m wanted (masked first L) copy)
    read_record r e w = rw (e, w)

    read_unwanted : (r : PageRecord C) → wanted r ≡ false → played m wanted (masked first (Some (Record r) ∷ L)) copy ≡ played m wanted (masked first L) copy
    read_unwanted r w = unread (λ M. played m wanted M copy) (ltb (new_number L) first) (Some (Record r)) (masked first L) refl (rw w)

    read_event : (e : JobEvent) (j : ℕ) → played m wanted (masked first (Some (Job e j) ∷ L)) copy ≡ played m wanted (masked first L) copy
    read_event e j = unread (λ M. played m wanted M copy) (ltb (new_number L) first) (Some (Job e j)) (masked first L) refl refl

    read_part : (c : CheckpointPart) → played m wanted (masked first (Some (Checkpoint c) ∷ L)) copy ≡ played m wanted (masked first L) copy
    read_part c = unread (λ M. played m wanted M copy) (ltb (new_number L) first) (Some (Checkpoint c)) (masked first L) refl refl

  -- a copy with every record of the page stays
  played_none : (first : ℕ) (L : Log C) (p k : ℕ) (copy : Page) → Legal size capacity L → count L p ≤ copy.lrc → played m (up_to_lrc p k) (masked first L) copy ≡ copy
  played_none first [] p k copy h le = refl
  played_none first (None ∷ L) p k copy h le = absurd h.1
  played_none first (Some (Record r) ∷ L) p k copy h le = go (up_to_lrc p k r) refl (played_none first L p k copy h.0 (omega (arith, count_more (Some (Record r)) L p)))
    where
      go : (t : Bool) → up_to_lrc p k r ≡ t → played m (up_to_lrc p k) (masked first L) copy ≡ copy → played m (up_to_lrc p k) (masked first (Some (Record r) ∷ L)) copy ≡ copy
      go false w ih = read_unwanted first (up_to_lrc p k) L copy r w ∙ ih
      go true w ih =
          let n = h.1.numbered in
          let old : r.lrc ≤ copy.lrc = grind (arith, nat_tests) in
          unread (λ M. played m (up_to_lrc p k) M copy) (ltb (new_number L) first) (Some (Record r)) (masked first L) refl (rw (w, ih, le-ltb copy.lrc r.lrc old)) ∙ ih
  played_none first (Some (Job e j) ∷ L) p k copy h le = read_event first (up_to_lrc p k) L copy e j ∙ played_none first L p k copy h.0 le
  played_none first (Some (Checkpoint c) ∷ L) p k copy h le = read_part first (up_to_lrc p k) L copy c ∙ played_none first L p k copy h.0 le

  whole_lrc : (L : Log C) (p k : ℕ) → Legal size capacity L → count L p ≤ k → (image m L p k).lrc ≡ count L p
  whole_lrc L p k h le = ap (λ x. x.lrc) (image_above L p k (count L p) h le (omega arith)) ∙ image_lrc L p (count L p) h (omega arith)

  -- playing on takes the image up to c, with every record before the first slot read, to the one up to k
  pub played_on : (first : ℕ) (L : Log C) (p c k : ℕ) → Legal size capacity L → count (up_to (pred first) L) p ≤ c → c ≤ count L p → c ≤ k
      → played m (up_to_lrc p k) (masked first L) (image m L p c) ≡ image m L p k
  played_on first [] p c k h le has on = refl
  played_on first (None ∷ L) p c k h le has on = absurd h.1
  played_on first (Some (Record r) ∷ L) p c k h le has on =
      go (leb c (count L p)) refl (λ has'. played_on first L p c k h.0 (omega (arith, up_to_more (pred first) (Some (Record r)) L p)) has' on)
    where
      s : Option (Slot C)
      s = Some (Record r)

      w : PageRecord C → Bool
      w = up_to_lrc p k

      own : (t : Bool) → w r ≡ t → c ≤ count L p → played m w (masked first L) (image m L p c) ≡ image m L p k → played m w (masked first (s ∷ L)) (image m L p c) ≡ image m (s ∷ L) p k
      own false e has' ih = rw e (read_unwanted first w L (image m L p c) r e ∙ ih)
      own true e has' ih =
          let n = h.1.numbered in
          let here : r.page ≡ p = grind (arith, nat_tests) in
          let above : count L p < r.lrc = omega (arith, ap (λ q. count L q) here) in
          let among : r.lrc ≤ k = grind (arith, nat_tests) in
          let read : ltb (new_number L) first ≡ false = le-ltb (new_number L) first (unread_not (ltb (new_number L) first) refl here above) in
          let l : (image m L p k).lrc ≡ count L p = whole_lrc L p k h.0 (omega arith) in
          let plays : ltb (image m L p k).lrc r.lrc ≡ true = lt-ltb _ _ (omega arith) in
          rw e (read_record first w L (image m L p c) r read e ∙ rw (ih, plays))
        where
          unread_not : (t : Bool) → ltb (new_number L) first ≡ t → r.page ≡ p → count L p < r.lrc → first ≤ new_number L
          unread_not false u here above = ltb-false _ _ u
          unread_not true u here above =
              let old = unread_old size capacity first L r c h.1 (subst (λ q. count (up_to (pred first) (s ∷ L)) q ≤ c) (sym here) le) (ltb-true _ _ u) in
              absurd (omega arith)

      go : (t : Bool) → leb c (count L p) ≡ t → (c ≤ count L p → played m w (masked first L) (image m L p c) ≡ image m L p k) → played m w (masked first (s ∷ L)) (image m (s ∷ L) p c) ≡ image m (s ∷ L) p k
      go true e ih = rw (image_more s L p c h (leb-true _ _ e)) (own (w r) refl (leb-true _ _ e) (ih (leb-true _ _ e)))
      go false e ih =
          let all : count (s ∷ L) p ≤ c = grind (arith, nat_tests) in
          played_none first (s ∷ L) p k (image m (s ∷ L) p c) h (omega (arith, image_lrc (s ∷ L) p c h has)) ∙ image_above (s ∷ L) p c k h all (omega arith)
  played_on first (Some (Job e j) ∷ L) p c k h le has on =
      read_event first (up_to_lrc p k) L (image m L p c) e j ∙ played_on first L p c k h.0 (omega (arith, up_to_more (pred first) (Some (Job e j)) L p)) has on
  played_on first (Some (Checkpoint x) ∷ L) p c k h le has on =
      read_part first (up_to_lrc p k) L (image m L p c) x ∙ played_on first L p c k h.0 (omega (arith, up_to_more (pred first) (Some (Checkpoint x)) L p)) has on

  pub played_image : (first : ℕ) (L : Log C) (p c k : ℕ) → Legal size capacity L → count (up_to (pred first) L) p ≤ c → c ≤ k → k ≤ count L p
      → played m (up_to_lrc p k) (masked first L) (image m L p c) ≡ image m L p k
  played_image first L p c k h le on has = played_on first L p c k h le (omega arith) on

  -- with no bound, as with any bound from the count on
  played_unbound : (first : ℕ) (L : Log C) (p k : ℕ) (copy : Page) → Legal size capacity L → count L p ≤ k → played m (of_page p) (masked first L) copy ≡ played m (up_to_lrc p k) (masked first L) copy
  played_unbound first [] p k copy h le = refl
  played_unbound first (None ∷ L) p k copy h le = absurd h.1
  played_unbound first (Some (Record r) ∷ L) p k copy h le = go (ltb (new_number L) first) (played_unbound first L p k copy h.0 (omega (arith, count_more (Some (Record r)) L p)))
    where
      go : (t : Bool) → played m (of_page p) (masked first L) copy ≡ played m (up_to_lrc p k) (masked first L) copy
          → played m (of_page p) (cond t None (Some (Record r)) ∷ masked first L) copy ≡ played m (up_to_lrc p k) (cond t None (Some (Record r)) ∷ masked first L) copy
      go true ih = ih
      go false ih = rw (among_those size L r p k h.1 le, ih)
  played_unbound first (Some (Job e j) ∷ L) p k copy h le =
      read_event first (of_page p) L copy e j ∙ played_unbound first L p k copy h.0 le ∙ sym (read_event first (up_to_lrc p k) L copy e j)
  played_unbound first (Some (Checkpoint c) ∷ L) p k copy h le =
      read_part first (of_page p) L copy c ∙ played_unbound first L p k copy h.0 le ∙ sym (read_part first (up_to_lrc p k) L copy c)

  pub played_whole : (first : ℕ) (L : Log C) (p c : ℕ) → Legal size capacity L → count (up_to (pred first) L) p ≤ c → c ≤ count L p
      → played m (of_page p) (masked first L) (image m L p c) ≡ whole_page m L p
  played_whole first L p c h le has = played_unbound first L p (count L p) (image m L p c) h (omega arith) ∙ played_on first L p c (count L p) h le has has

  -- One record

  pub whole_next : (L : Log C) (r : PageRecord C) → Legal size capacity L → Recorded size L r → whole_page m (Some (Record r) ∷ L) r.page ≡ after_record m r (whole_page m L r.page)
  whole_next L r h n =
      let p = r.page in
      let own : eqb p p ≡ true = eq-eqb p p refl in
      let among : leb r.lrc (suc (count L p)) ≡ true = le-leb _ _ (omega (arith, n.numbered)) in
      rw (own, among, image_above L p (suc (count L p)) (count L p) h (omega arith) (omega arith))

  pub play_next : (L : Log C) (r : PageRecord C) → Legal size capacity L → Recorded size L r → play m r (whole_page m L r.page) ≡ whole_page m (Some (Record r) ∷ L) r.page
  play_next L r h n =
      let l : (whole_page m L r.page).lrc ≡ count L r.page = image_lrc L r.page (count L r.page) h (omega arith) in
      let plays : ltb (whole_page m L r.page).lrc r.lrc ≡ true = lt-ltb _ _ (omega (arith, n.numbered)) in
      rw plays (sym (whole_next L r h n))

zeros_small : (n k : ℕ) → get_or (replicate n 0) k 0 < 256
zeros_small zero k = omega arith
zeros_small (suc n) zero = omega arith
zeros_small (suc n) (suc k) = zeros_small n k

pub blank_content : Content blank_page.content
blank_content = record { size = refl; small = zeros_small 252 }

-- of any log

module _ {C : Type 0} (m : Meaning C) where
  pub whole_other : (L : Log C) (r : PageRecord C) (p : ℕ) → eqb r.page p ≡ false → whole_page m (Some (Record r) ∷ L) p ≡ whole_page m L p
  whole_other L r p e = rw e

module _ {C : Type 0} (m : Meaning C) (law : Lawful m) where
  pub acted_content : (a : Action) (c : C) (d : List ℕ) → Content d → Content (acted m a c d)
  acted_content Put c d h = law.put_fits c d h
  acted_content TakeBack c d h = law.back_fits c d h

  pub image_content : (L : Log C) (p k : ℕ) → Content (image m L p k).content
  image_content [] p k = blank_content
  image_content (None ∷ L) p k = image_content L p k
  image_content (Some (Record r) ∷ L) p k = go (up_to_lrc p k r) (image_content L p k)
    where
      go : (t : Bool) → Content (image m L p k).content → Content (cond t (after_record m r (image m L p k)) (image m L p k)).content
      go true h = acted_content r.action r.change _ h
      go false h = h
  image_content (Some (Job e j) ∷ L) p k = image_content L p k
  image_content (Some (Checkpoint c) ∷ L) p k = image_content L p k
