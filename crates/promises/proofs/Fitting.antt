-- A slot that may stand next in a legal log fits at its number, so its bytes read back as that slot; and a page's bytes read back as that page. Assumes nothing.
use Rattle.std.proofs.Common.{◌≡◌, ℕ, suc, ◌^◌, ◌<◌, ◌≤◌, Bool, true, false, cond, eqb, List, [], ◌∷◌, length, Some, None, Option, Result, sym, refl, ap, ◌∙◌, arith}
use Rattle.std.specs.Result.{result_ok}
use Rattle.std.specs.Str.{bytes_eq}
use Rattle.std.proofs.lemmas.Slice.Eq.{bytes_eq-Decides}
use Rattle.std.proofs.lemmas.Bool.{eqb-true, eq-eqb, le-leb, lt-ltb, cond_both}
use Rattle.format.specs.declared.page.Page.{Page}
use Rattle.format.specs.declared.slot.Slot.{Slot}
use Rattle.format.specs.declared.slot.Slot.TheVariants.{Record, Job, Checkpoint}
use Rattle.format.specs.declared.slot.PageRecord.{PageRecord}
use Rattle.format.specs.declared.slot.Action.{Action}
use Rattle.format.specs.declared.slot.Action.TheVariants.{Put, TakeBack}
use Rattle.format.specs.declared.slot.JobEvent.{JobEvent}
use Rattle.format.specs.declared.slot.JobEvent.TheVariants.{Open, Commit, End}
use Rattle.format.specs.declared.slot.CheckpointPart.{CheckpointPart}
use Rattle.format.specs.declared.slot.CheckpointPart.TheVariants.{Begin, DirtyPage, OpenJob, Complete}
use Rattle.format.specs.Changes.{Meaning, Lawful, Content}
use Rattle.format.specs.Pages.{page_bytes, page_of}
use Rattle.format.specs.Slots.{Sized, read_slot, slot_bytes, slot_fields, slot_fits}
use Rattle.format.proofs.Encoding.{written_reads}
use Rattle.format.proofs.Paged.{page_reads}
use Rattle.device.specs.declared.log_store.LogFault.{LogFault}
use Rattle.device.specs.LogStores.{LogModel}
use Rattle.recovery_log.specs.Log.{Log, new_number, is_open, opens, next, next_by, Numbered, rest, pending, pending_by}
use Rattle.rules.specs.State.{Devices, size}
use Rattle.rules.specs.Plans.{with_log}
use Rattle.rules.specs.Restart.{whole}
use Rattle.promises.proofs.Decoded.{SlotPut, whole_length}
use Rattle.promises.proofs.Legal.{Legal, NextSlot, Recorded, Follows, Turns, Marks, count}

-- The numbers that a legal log holds

next_low : (a : Action) (n link : ℕ) → link ≤ n → next_by a (suc n) link ≤ suc n
next_low Put n link le = omega arith
next_low TakeBack n link le = omega arith

module _ {C : Type 0} where
  -- the links of these changes are at most n
  abbrev Linked : ℕ → List (Numbered C) → Type 0
  Linked n [] = Unit {0}
  Linked n (x ∷ xs) = (x.record'.link ≤ n) × Linked n xs

  linked_later : (n : ℕ) (xs : List (Numbered C)) → Linked n xs → Linked (suc n) xs
  linked_later n [] h = tt
  linked_later n (x ∷ xs) h = let k = h.0 in (omega arith, linked_later n xs h.1)

  linked_rest : (n : ℕ) (xs : List (Numbered C)) → Linked n xs → Linked n (rest xs)
  linked_rest n [] h = tt
  linked_rest n (x ∷ xs) h = h.1

  -- what a job's next and its pending changes link to
  record Links (L : Log C) (j : ℕ) : Type 0 where
    next_is : next L j ≤ length L
    linked : Linked (length L) (pending L j)

  link_low : (a : Action) (L : Log C) (r : PageRecord C) → Follows a L r → Links L r.job → r.link ≤ length L
  link_low Put L r f h = rw f h.next_is
  link_low TakeBack L r f h = let k = rw f.stack at h.linked in rw f.link k.0

  linked_by : (a : Action) (n : ℕ) (x : Numbered C) (xs : List (Numbered C)) → x.record'.link ≤ n → Linked n xs → Linked n (pending_by a x xs)
  linked_by Put n x xs le h = (le, h)
  linked_by TakeBack n x xs le h = linked_rest n xs h

  later : (L : Log C) (j : ℕ) (s : Option (Slot C)) → next (s ∷ L) j ≡ next L j → pending (s ∷ L) j ≡ pending L j → Links L j → Links (s ∷ L) j
  later L j s e f h = let k = h.next_is in
      record { next_is = rw e (omega arith); linked = rw f (linked_later (length L) (pending L j) h.linked) }

  module _ (size capacity : ℕ) where
    links : (L : Log C) → Legal size capacity L → (j : ℕ) → Links L j
    links [] h j = record { next_is = omega arith; linked = tt }
    links (None ∷ L) h j = absurd h.1
    links (Some (Record r) ∷ L) h j =
        let x : Numbered C = record { number = new_number L; record' = r } in
        let old = links L h.0 j in
        let most = old.next_is in
        let low = link_low r.action L r h.1.follows (links L h.0 r.job) in
        let was = linked_later (length L) (pending L j) old.linked in
        record {
          next_is = cond_both (eqb r.job j) (next_by r.action (new_number L) r.link) (next L j) (λ (n : ℕ). n ≤ suc (length L))
              (λ e. next_low r.action (length L) r.link low) (λ e. omega arith);
          linked = cond_both (eqb r.job j) (pending_by r.action x (pending L j)) (pending L j) (Linked (suc (length L)))
              (λ e. linked_by r.action (suc (length L)) x (pending L j) (omega arith) was) (λ e. was);
        }
    links (Some (Job e k) ∷ L) h j = later L j (Some (Job e k)) refl refl (links L h.0 j)
    links (Some (Checkpoint c) ∷ L) h j = later L j (Some (Checkpoint c)) refl refl (links L h.0 j)

    -- an open job's number is that of its open
    open_inside : (L : Log C) → Legal size capacity L → (j : ℕ) → is_open L j ≡ true → (1 ≤ j) × (j ≤ length L)
    open_inside [] h j o = let z : ◌≡◌ {A = ℕ} 0 1 = cc in absurd (omega arith)
    open_inside (None ∷ L) h j o = absurd h.1
    open_inside (Some (Record r) ∷ L) h j o = let k = open_inside L h.0 j o in (k.0, omega arith)
    open_inside (Some (Job e i) ∷ L) h j o = go (eqb i j) refl e h.1 o (open_inside L h.0 j)
      where
        go : (t : Bool) → eqb i j ≡ t → (e : JobEvent) → Turns e L i → cond t (opens e) (is_open L j) ≡ true
            → (is_open L j ≡ true → (1 ≤ j) × (j ≤ length L)) → (1 ≤ j) × (j ≤ suc (length L))
        go true q Open u o' more = let own = u.own in let same = eqb-true i j q in (omega arith, omega arith)
        go true q Commit u o' more = let z : ◌≡◌ {A = ℕ} 0 1 = cc in absurd (omega arith)
        go true q End u o' more = let z : ◌≡◌ {A = ℕ} 0 1 = cc in absurd (omega arith)
        go false q e u o' more = let k = more o' in (k.0, omega arith)
    open_inside (Some (Checkpoint c) ∷ L) h j o = let k = open_inside L h.0 j o in (k.0, omega arith)

  count_most : (L : Log C) (p : ℕ) → count L p ≤ length L
  count_most [] p = omega arith
  count_most (None ∷ L) p = let k = count_most L p in omega arith
  count_most (Some (Record r) ∷ L) p =
      let k = count_most L p in
      cond_both (eqb r.page p) (suc (count L p)) (count L p) (λ (n : ℕ). n ≤ suc (length L)) (λ e. omega arith) (λ e. omega arith)
  count_most (Some (Job e j) ∷ L) p = let k = count_most L p in omega arith
  count_most (Some (Checkpoint c) ∷ L) p = let k = count_most L p in omega arith

-- Slots that fit

module _ {C : Type 0} (m : Meaning C) where
  -- the slot has its place as slot n, and its fields have their widths
  record Fit (size n : ℕ) (s : Slot C) : Type 0 where
    sized : Sized (slot_fields m s)
    fits : slot_fits m size n s ≡ true

  module _ (law : Lawful m) (size n : ℕ) (few : n ≤ 4096) where
    record_fit : (a : Action) (p j l k : ℕ) (c : C) → p < size → 1 ≤ j → j ≤ n → 1 ≤ l → l ≤ n → k < n
        → Fit size n (Record (record { action = a; page = p; job = j; lrc = l; link = k; change = c }))
    record_fit a p j l k c hp h1 hj hl hm hk = record {
      sized = record { job = omega arith; lrc = omega arith; link = omega arith; change = (law.bytes_fit c).size };
      fits = go a;
    }
      where
        go : (a : Action) → slot_fits m size n (Record (record { action = a; page = p; job = j; lrc = l; link = k; change = c })) ≡ true
        go Put = rw (lt-ltb p size hp, le-leb 1 j h1, le-leb j n hj, le-leb 1 l hl, le-leb 0 k (omega arith), lt-ltb k n hk)
        go TakeBack = rw (lt-ltb p size hp, le-leb 1 j h1, le-leb j n hj, le-leb 1 l hl, le-leb 0 k (omega arith), lt-ltb k n hk)

    event_fit : (e : JobEvent) (j : ℕ) → 1 ≤ j → j ≤ n → (opens e ≡ true → j ≡ n) → Fit size n (Job e j)
    event_fit e j h1 hj own = record {
      sized = record { job = omega arith; lrc = omega arith; link = omega arith; change = refl };
      fits = go e own;
    }
      where
        go : (e : JobEvent) → (opens e ≡ true → j ≡ n) → slot_fits m size n (Job e j) ≡ true
        go Open o = rw (le-leb 1 j h1, eq-eqb j n (o refl))
        go Commit o = rw (le-leb 1 j h1, le-leb j n hj)
        go End o = rw (le-leb 1 j h1, le-leb j n hj)

  -- What may stand next

  module _ (law : Lawful m) (size capacity : ℕ) (L : Log C) (h : Legal size capacity L) (few : new_number L ≤ 4096) where
    next_record : (r : PageRecord C) → Recorded size L r → Fit size (new_number L) (Record r)
    next_record r x =
        let o = open_inside size capacity L h r.job x.opened in
        let k = link_low r.action L r x.follows (links size capacity L h r.job) in
        let c = count_most L r.page in
        let l = x.numbered in
        record_fit law size (new_number L) few r.action r.page r.job r.lrc r.link r.change
        x.inside o.0 (omega arith) (omega arith) (omega arith) (omega arith)

    next_event : (e : JobEvent) (j : ℕ) → Turns e L j → Fit size (new_number L) (Job e j)
    next_event Open j x = let e = x.own in event_fit law size (new_number L) few Open j (omega arith) (omega arith) (λ o. e)
    next_event Commit j x =
        let o = open_inside size capacity L h j x in
        event_fit law size (new_number L) few Commit j o.0 (omega arith) (λ z. let w : ◌≡◌ {A = ℕ} 0 1 = cc in absurd (omega arith))
    next_event End j x =
        let o = open_inside size capacity L h j x.opened in
        event_fit law size (new_number L) few End j o.0 (omega arith) (λ z. let w : ◌≡◌ {A = ℕ} 0 1 = cc in absurd (omega arith))

    next_part : (c : CheckpointPart) → Marks size c L → Fit size (new_number L) (Checkpoint c)
    next_part Begin x = record { sized = record { job = omega arith; lrc = omega arith; link = omega arith; change = refl }; fits = refl }
    next_part (DirtyPage p s) x = record {
      sized = record { job = omega arith; lrc = omega arith; link = omega arith; change = refl };
      fits = rw (lt-ltb p size x.0, lt-ltb s (new_number L) (omega arith), le-leb 1 s x.1);
    }
    next_part (OpenJob j n) x = record {
      sized = record { job = omega arith; lrc = omega arith; link = omega arith; change = refl };
      fits = rw (le-leb 1 j x.0, le-leb j (new_number L) (omega arith), le-leb 0 n (omega arith), lt-ltb n (new_number L) (omega arith));
    }
    next_part (Complete b) x = record {
      sized = record { job = omega arith; lrc = omega arith; link = omega arith; change = refl };
      fits = rw (lt-ltb b (new_number L) (omega arith), le-leb 1 b x.0);
    }

    next_fit : (s : Slot C) → NextSlot size (Some s) L → Fit size (new_number L) s
    next_fit (Record r) x = next_record r x
    next_fit (Job e j) x = next_event e j x
    next_fit (Checkpoint c) x = next_part c x

  pub slot_reads : Lawful m → (size capacity : ℕ) (L : Log C) (s : Slot C) → Legal size capacity L → NextSlot size (Some s) L → size ≤ 64
      → capacity ≤ 4096 → length L < capacity → result_ok (read_slot m size (new_number L) (slot_bytes m s)) ≡ Some s
  slot_reads law size capacity L s h x small few room =
      let f = next_fit law size capacity L h (omega arith) s x in
      ap result_ok (written_reads m law size (new_number L) s f.sized f.fits)

  -- an append that puts its slot makes the log longer by that slot
  pub put_grows : Lawful m → (d : Devices) (s : Slot C) (r : Result (Unit {0}) LogFault) (l : LogModel)
      → Legal (size d) d.log.capacity (whole m d) → NextSlot (size d) (Some s) (whole m d) → size d ≤ 64 → d.log.capacity ≤ 4096
      → SlotPut m d (slot_bytes m s) r l → whole m (with_log d l) ≡ Some s ∷ whole m d
  put_grows law d s r l h x small few put =
      let n = whole_length m d in
      let room = put.room in
      let reads = slot_reads law (size d) d.log.capacity (whole m d) s h x small few (omega arith) in
      put.grown ∙ (ap (λ (k : ℕ). result_ok (read_slot m (size d) (suc k) (slot_bytes m s)) ∷ whole m d) (sym n)
      ∙ ap (λ (o : Option (Slot C)). o ∷ whole m d) reads)

-- Pages

pub page_written : (p : Page) → p.lrc < 2 ^ 32 → Content p.content → page_of (page_bytes p) ≡ p
page_written p few h = page_reads p few

-- two images that ship finds the same are one
pub same_image : (a b : List ℕ) → bytes_eq a b ≡ true → a ≡ b
same_image a b h = (bytes_eq-Decides a b).0 h
