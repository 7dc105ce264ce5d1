-- Slots over any bytes: what is read fits, what a slot that fits may say, which slots read back, and what holds of each slot of a log.
use Rattle.std.proofs.Common.{◌≡◌, ℕ, ◌<◌, ◌≤◌, Bool, true, false, cond, ◌&&◌, eqb, ltb, leb, List, [], ◌∷◌, length, Some, None, Ok, Err, Option, Result, sym, refl, ap, ◌∙◌, subst, arith}
use Rattle.std.specs.Result.{result_ok}
use Rattle.std.proofs.lemmas.Bool.{true≢false, eqb-true, eq-eqb, le-leb, lt-ltb}
use Rattle.std.proofs.lemmas.Bool.Decides.{nat_tests}
use Rattle.format.specs.declared.slot.Slot.{Slot}
use Rattle.format.specs.declared.slot.Slot.TheVariants.{Record, Job, Checkpoint}
use Rattle.format.specs.declared.slot.PageRecord.{PageRecord}
use Rattle.format.specs.declared.slot.Action.{Action}
use Rattle.format.specs.declared.slot.Action.TheVariants.{Put, TakeBack}
use Rattle.format.specs.declared.slot.JobEvent.{JobEvent}
use Rattle.format.specs.declared.slot.JobEvent.TheVariants.{Open, Commit, End}
use Rattle.format.specs.declared.slot.CheckpointPart.TheVariants.{Begin, DirtyPage, OpenJob, Complete}
use Rattle.format.specs.declared.slot.Misfit.{Misfit}
use Rattle.format.specs.Changes.{Meaning, Lawful}
use Rattle.format.specs.Slots.{fields_of, in_range, slot_fits, slot_bytes, read_slot}
use Rattle.format.proofs.ByKind.{fields_of_slot}
use Rattle.format.proofs.Encoding.{used_in_range, written_reads, reads, read_parts}
use Rattle.recovery_log.specs.Log.{Log, new_number, opens}
use Rattle.rules.specs.Reading.{slot_at, read_on, known, at}

-- What holds of each slot of a log, by its number

module _ {C : Type 0} where
  abbrev pub Each : (ℕ → Option (Slot C) → Type 0) → Log C → Type 0
  Each P [] = Unit {0}
  Each P (x ∷ L) = P (new_number L) x × Each P L

  module _ (P : ℕ → Option (Slot C) → Type 0) where
    pub each_at : (L : Log C) (n : ℕ) → Each P L → 1 ≤ n → n ≤ length L → P n (at L n)
    each_at [] n h one le = absurd (omega arith)
    each_at (x ∷ L) n h one le = go (eqb n (new_number L)) refl (each_at L n h.1 one)
      where
        go : (t : Bool) → eqb n (new_number L) ≡ t → (n ≤ length L → P n (at L n)) → P n (cond t x (at L n))
        go true e more = subst (λ k. P k x) (sym (eqb-true n (new_number L) e)) h.0
        go false e more = more (grind (arith, nat_tests))

    each_known : (m : Meaning C) (size first : ℕ) (L : Log C) (bs : List (List ℕ)) → ((n : ℕ) (b : List ℕ) → P n (slot_at m size first n b)) → Each P L
        → Each P (read_on m size first L bs)
    each_known m size first L [] p h = h
    each_known m size first L (b ∷ bs) p h = each_known m size first (slot_at m size first (new_number L) b ∷ L) bs p (p (new_number L) b, h)

    pub each_more : (Q : ℕ → Option (Slot C) → Type 0) (L : Log C) → ((n : ℕ) (x : Option (Slot C)) → n ≤ length L → P n x → Q n x) → Each P L → Each Q L
    each_more Q [] f h = tt
    each_more Q (x ∷ L) f h = (f (new_number L) x (omega arith) h.0, each_more Q L (λ n y le. f n y (omega arith)) h.1)

-- What is read fits

module _ {C : Type 0} (m : Meaning C) (law : Lawful m) where
  pub read_fits : (size n : ℕ) (b : List ℕ) (s : Slot C) → read_slot m size n b ≡ Ok s → slot_fits m size n s ≡ true
  read_fits size n b s e =
      let r = reads m size n b s e in
      let f = fields_of r.kind b in
      ap (in_range size n) (fields_of_slot m law f s r.slot_is) ∙ (used_in_range size n f ∙ (read_parts m size n b s r).1)

  -- of each slot that is read
  abbrev pub Fits : ℕ → ℕ → Option (Slot C) → Type 0
  Fits size n None = Unit {0}
  Fits size n (Some s) = slot_fits m size n s ≡ true

  fits_part : (size n : ℕ) (b : List ℕ) (r : Result (Slot C) Misfit) → read_slot m size n b ≡ r → Fits size n (result_ok r)
  fits_part size n b (Ok s) e = read_fits size n b s e
  fits_part size n b (Err why) e = tt

  fits_at : (size first n : ℕ) (b : List ℕ) → Fits size n (slot_at m size first n b)
  fits_at size first n b = go (ltb n first)
    where
      go : (t : Bool) → Fits size n (cond t None (result_ok (read_slot m size n b)))
      go true = tt
      go false = fits_part size n b (read_slot m size n b) refl

  pub known_fits : (size first : ℕ) (bs : List (List ℕ)) → Each (Fits size) (known m size first bs)
  known_fits size first bs = each_known (Fits size) m size first [] bs (fits_at size first) tt

-- What a slot that fits may say

pub record Inside {C : Type 0} (size n : ℕ) (r : PageRecord C) : Type 0 where
  pub page : r.page < size
  pub job_one : 1 ≤ r.job
  pub job_low : r.job ≤ n
  pub lrc : 1 ≤ r.lrc
  pub link : r.link < n

module _ {C : Type 0} (m : Meaning C) (size n : ℕ) where
  pub record_inside : (r : PageRecord C) → slot_fits m size n (Record r) ≡ true → Inside size n r
  record_inside r h = go r.action r.page r.job r.lrc r.link r.change h
    where
      parts : (p j l k : ℕ) → (ltb p size && ((leb 1 j && leb j n) && (leb 1 l && (leb 0 k && ltb k n)))) ≡ true
          → (p < size) × (1 ≤ j) × (j ≤ n) × (1 ≤ l) × (k < n)
      parts p j l k e = (grind (arith, nat_tests), grind (arith, nat_tests), grind (arith, nat_tests), grind (arith, nat_tests), grind (arith, nat_tests))

      go : (a : Action) (p j l k : ℕ) (c : C) → slot_fits m size n (Record (record { action = a; page = p; job = j; lrc = l; link = k; change = c })) ≡ true
          → Inside {C = C} size n (record { action = a; page = p; job = j; lrc = l; link = k; change = c })
      go Put p j l k c e = let x = parts p j l k e in record { page = x.0; job_one = x.1; job_low = x.2; lrc = x.3; link = x.4 }
      go TakeBack p j l k c e = let x = parts p j l k e in record { page = x.0; job_one = x.1; job_low = x.2; lrc = x.3; link = x.4 }

  pub event_inside : (e : JobEvent) (j : ℕ) → slot_fits m size n (Job e j) ≡ true → (1 ≤ j) × (j ≤ n)
  event_inside Open j h = (grind (arith, nat_tests), grind (arith, nat_tests))
  event_inside Commit j h = (grind (arith, nat_tests), grind (arith, nat_tests))
  event_inside End j h = (grind (arith, nat_tests), grind (arith, nat_tests))

  pub dirty_inside : (p s : ℕ) → slot_fits m size n (Checkpoint (DirtyPage p s)) ≡ true → (1 ≤ s) × (s < n)
  dirty_inside p s h = (grind (arith, nat_tests), grind (arith, nat_tests))

  pub open_inside : (j k : ℕ) → slot_fits m size n (Checkpoint (OpenJob j k)) ≡ true → (1 ≤ j) × (j ≤ n)
  open_inside j k h = (grind (arith, nat_tests), grind (arith, nat_tests))

-- Slots that read back

module _ {C : Type 0} (m : Meaning C) (law : Lawful m) (size n : ℕ) (few : n ≤ 4096) where
  pub record_reads : (r : PageRecord C) → r.page < size → 1 ≤ r.job → r.job ≤ n → 1 ≤ r.lrc → r.lrc ≤ 8192 → r.link < n
      → read_slot m size n (slot_bytes m (Record r)) ≡ Ok (Record r)
  record_reads r hp h1 hj hl hm hk = written_reads m law size n (Record r)
      (record { job = omega arith; lrc = omega arith; link = omega arith; change = (law.bytes_fit r.change).size })
      (go r.action r.page r.job r.lrc r.link r.change hp h1 hj hl hk)
    where
      go : (a : Action) (p j l k : ℕ) (c : C) → p < size → 1 ≤ j → j ≤ n → 1 ≤ l → k < n
          → slot_fits m size n (Record (record { action = a; page = p; job = j; lrc = l; link = k; change = c })) ≡ true
      go Put p j l k c hp h1 hj hl hk = rw (lt-ltb p size hp, le-leb 1 j h1, le-leb j n hj, le-leb 1 l hl, le-leb 0 k (omega arith), lt-ltb k n hk)
      go TakeBack p j l k c hp h1 hj hl hk = rw (lt-ltb p size hp, le-leb 1 j h1, le-leb j n hj, le-leb 1 l hl, le-leb 0 k (omega arith), lt-ltb k n hk)

  pub open_reads : (j : ℕ) → j ≡ n → 1 ≤ j → read_slot m size n (slot_bytes m (Job Open j)) ≡ Ok (Job Open j)
  open_reads j own one = written_reads m law size n (Job Open j) (record { job = omega arith; lrc = omega arith; link = omega arith; change = refl })
      (rw (le-leb 1 j one, eq-eqb j n own))

  pub closed_reads : (e : JobEvent) (j : ℕ) → opens e ≡ false → 1 ≤ j → j ≤ n → read_slot m size n (slot_bytes m (Job e j)) ≡ Ok (Job e j)
  closed_reads e j c one le = written_reads m law size n (Job e j) (record { job = omega arith; lrc = omega arith; link = omega arith; change = refl }) (go e c)
    where
      go : (e : JobEvent) → opens e ≡ false → slot_fits m size n (Job e j) ≡ true
      go Open c = absurd (true≢false c)
      go Commit c = rw (le-leb 1 j one, le-leb j n le)
      go End c = rw (le-leb 1 j one, le-leb j n le)

  pub begin_reads : read_slot m size n (slot_bytes m (Checkpoint Begin)) ≡ Ok (Checkpoint Begin)
  begin_reads = written_reads m law size n (Checkpoint Begin) (record { job = omega arith; lrc = omega arith; link = omega arith; change = refl }) refl

  pub dirty_reads : (p s : ℕ) → p < size → 1 ≤ s → s < n → read_slot m size n (slot_bytes m (Checkpoint (DirtyPage p s))) ≡ Ok (Checkpoint (DirtyPage p s))
  dirty_reads p s hp one lt = written_reads m law size n (Checkpoint (DirtyPage p s)) (record { job = omega arith; lrc = omega arith; link = omega arith; change = refl })
      (rw (lt-ltb p size hp, lt-ltb s n lt, le-leb 1 s one))

  pub job_reads : (j k : ℕ) → 1 ≤ j → j ≤ n → k < n → read_slot m size n (slot_bytes m (Checkpoint (OpenJob j k))) ≡ Ok (Checkpoint (OpenJob j k))
  job_reads j k one le lt = written_reads m law size n (Checkpoint (OpenJob j k)) (record { job = omega arith; lrc = omega arith; link = omega arith; change = refl })
      (rw (le-leb 1 j one, le-leb j n le, le-leb 0 k (omega arith), lt-ltb k n lt))

  pub complete_reads : (b : ℕ) → 1 ≤ b → b < n → read_slot m size n (slot_bytes m (Checkpoint (Complete b))) ≡ Ok (Checkpoint (Complete b))
  complete_reads b one lt = written_reads m law size n (Checkpoint (Complete b)) (record { job = omega arith; lrc = omega arith; link = omega arith; change = refl })
      (rw (lt-ltb b n lt, le-leb 1 b one))
