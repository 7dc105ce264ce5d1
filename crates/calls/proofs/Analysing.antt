-- Analysis: what slots that fit may say, the slot of a number, passes over the slots before a number, and the call. Assumes nothing.
use Rattle.std.proofs.Common.{◌≡◌, ℕ, pred, ◌<◌, ◌≤◌, ◌+◌, ◌-◌, Bool, true, List, [], slice_index_or, Some, Ok, Err, Option, Result, sym, refl, ap, subst, ◌∙◌, arith}
use Rattle.std.specs.Result.{result_ok}
use Rattle.std.proofs.lemmas.Bool.{ne_eqb}
use Rattle.std.proofs.lemmas.Bool.Decides.{nat_tests}
use Rattle.std.proofs.lemmas.Option.{none-some}
use Rattle.format.specs.declared.slot.Slot.{Slot}
use Rattle.format.specs.declared.slot.Slot.TheVariants.{Record, Checkpoint}
use Rattle.format.specs.declared.slot.PageRecord.{PageRecord}
use Rattle.format.specs.declared.slot.Action.{Action}
use Rattle.format.specs.declared.slot.Action.TheVariants.{Put, TakeBack}
use Rattle.format.specs.declared.slot.CheckpointPart.TheVariants.{DirtyPage, Complete}
use Rattle.format.specs.declared.slot.Misfit.{Misfit}
use Rattle.format.specs.Changes.{Meaning, Lawful}
use Rattle.format.specs.Slots.{read_slot, slot_fits, fields_of, in_range}
use Rattle.format.proofs.ByKind.{fields_of_slot}
use Rattle.format.proofs.Encoding.{reads, read_parts, used_in_range}
use Rattle.rules.specs.declared.refusal.Refusal.{Refusal}
use Rattle.rules.specs.declared.refusal.Refusal.TheVariants.{SizesOutOfRange}
use Rattle.rules.specs.Plans.{Does, refused, granted, began, powered_on}
use Rattle.rules.specs.Reading.{at, up_to, scan, last_end}
use Rattle.rules.specs.Restart.{Tables, Start, from_begin, from_end, start_at, found_in, analysed_plan, analysis_plan, whole}
use Rattle.rules.specs.State.{Devices, World, Found, out, size, slots, log_length, next_slot, sizes_legal}
use Rattle.rules.specs.Tables.{Jobs, Dirty}
use Rattle.promises.proofs.Decoded.{known_take}
use Rattle.calls.specs.Passes.{stepped}
use Rattle.calls.specs.Readers.{slot_of}
use Rattle.calls.proofs.Checks.{told, told_yes, told_no, told_why}
use Rattle.calls.proofs.Logs.{at_among, read_all}
use Rattle.calls.proofs.Scans.{so_far, step, nothing_yet, so_all, stays}

-- What a slot that fits may say

module _ {C : Type 0} (m : Meaning C) (law : Lawful m) (d : Devices) (n : ℕ) where
  slot_fits_there : (s : Slot C) → Some s ≡ slot_of m d n → slot_fits m (size d) n s ≡ true
  slot_fits_there s e = go _ refl (sym e)
    where
      b : List ℕ
      b = slice_index_or (slots d) (pred n) []

      go : (r : Result (Slot C) Misfit) → read_slot m (size d) n b ≡ r → result_ok r ≡ Some s → slot_fits m (size d) n s ≡ true
      go (Ok t) q k =
          let r = reads m (size d) n b s (q ∙ cc) in
          let f = fields_of r.kind b in
          ap (in_range (size d) n) (fields_of_slot m law f s r.slot_is) ∙ (used_in_range (size d) n f ∙ (read_parts m (size d) n b s r).1)
      go (Err why) q k = absurd (none-some s k)

  pub record_page : (r : PageRecord C) → Some (Record r) ≡ slot_of m d n → size d ≤ 64 → r.page < 64
  record_page r e few = go r.action r.page r.job r.lrc r.link r.change (slot_fits_there (Record r) e)
    where
      go : (a : Action) (p j l k : ℕ) (c : C) → slot_fits m (size d) n (Record (record { action = a; page = p; job = j; lrc = l; link = k; change = c })) ≡ true → p < 64
      go Put p j l k c h = grind (arith, nat_tests)
      go TakeBack p j l k c h = grind (arith, nat_tests)

  pub entry_page : (p s : ℕ) → Some (Checkpoint (DirtyPage p s)) ≡ slot_of m d n → size d ≤ 64 → p < 64
  entry_page p s e few = let k = slot_fits_there (Checkpoint (DirtyPage p s)) e in grind (arith, nat_tests)

  pub begin_before : (b : ℕ) → Some (Checkpoint (Complete b)) ≡ slot_of m d n → (0 < b) × (b < n)
  begin_before b e = let k = slot_fits_there (Checkpoint (Complete b)) e in (grind (arith, nat_tests), grind (arith, nat_tests))

-- The slot of a number

module _ {C : Type 0} (m : Meaning C) (d : Devices) where
  at_slot : (n : ℕ) → 0 < n → n ≤ log_length d → at (whole m d) n ≡ slot_of m d n
  at_slot n one le = ap (λ L. at L n) (sym (read_all m d 1 (log_length d) (omega arith))) ∙ at_among m d 1 (log_length d) n (omega arith) one one le

  -- what a checkpoint's end gives is what its begin gives
  pub from_its_end : (e b : ℕ) {x : Option (Slot C)} → Some (Checkpoint (Complete b)) ≡ x → 0 < b → b ≤ log_length d → {r : Result Start Refusal}
      → r ≡ from_begin (whole m d) e b (slot_of m d b) → r ≡ from_end (whole m d) e x
  from_its_end e b is one le {r = r} q = subst (λ x. r ≡ from_end (whole m d) e x) is (q ∙ ap (from_begin (whole m d) e b) (sym (at_slot b one le)))

  -- where some slot is an end
  pub from_an_end : (e : ℕ) → 0 < e → e ≤ log_length d → {r : Result Start Refusal} → r ≡ from_end (whole m d) e (slot_of m d e) → r ≡ start_at (whole m d) e
  from_an_end e one le q = q ∙ (ap (from_end (whole m d) e) (sym (at_slot e one le)) ∙ sym (rw (ne_eqb e 0 (λ z. omega arith)) refl))

-- A pass over the slots before a number, whose steps answer and leave tables

module _ {C : Type 0} (from : ℕ) (f : ℕ → Option (Slot C) → Tables → Result Tables Refusal) (s : Tables) (m : Meaning C) (d : Devices) (end : ℕ) where
  abbrev there : Result Tables Refusal
  there = scan from f s (up_to (pred end) (whole m d))

  so_cut : (n : ℕ) → so_far from f s m d n ≡ scan from f s (up_to n (whole m d))
  so_cut n = ap (scan from f s) (known_take m (size d) 1 n (slots d))

  -- before the first slot
  pub begins : 0 < from → so_far from f s m d (pred from) ≡ Ok s
  begins one = nothing_yet from f s m d (pred from) (omega arith)

  -- one slot more
  pub goes_on : (n : ℕ) → 0 < from → from ≤ n → n < end → end ≤ next_slot d → {t : Tables} {r : Result Tables Refusal} → so_far from f s m d (pred n) ≡ Ok t
      → r ≡ f n (slot_of m d n) t → so_far from f s m d (pred (n + 1)) ≡ r
  goes_on n one start before le e q = let back : pred (n + 1) ≡ n = omega arith in rw back (step from f s m d n (omega arith) start (omega arith) e ∙ sym q)

  -- a refusal
  pub ends_early : (n : ℕ) → 0 < from → from ≤ n → n < end → end ≤ next_slot d → {t : Tables} {why : Refusal} → so_far from f s m d (pred n) ≡ Ok t
      → Err why ≡ f n (slot_of m d n) t → (r : Result (Unit {0}) Refusal) → r ≡ Err why → (jobs : Jobs) (dirty : Dirty) → stepped r jobs dirty ≡ there
  ends_early n one start before le {why = why} e q r is jobs dirty =
      let k : n + (pred end - n) ≡ pred end = omega arith in
      let last = stays from f s m d (pred end - n) n why (omega arith) (omega arith) (step from f s m d n (omega arith) start (omega arith) e ∙ sym q) in
      ap (λ r. stepped r jobs dirty) is ∙ (sym last ∙ (ap (so_far from f s m d) k ∙ so_cut (pred end)))

  -- the end
  pub ends_well : (n : ℕ) → n ≡ end → {t : Tables} → so_far from f s m d (pred n) ≡ Ok t → Ok t ≡ there
  ends_well n is e = sym e ∙ (ap (λ n. so_far from f s m d (pred n)) is ∙ so_cut (pred end))

  pub ends_whole : (r : Result Tables Refusal) → end ≡ next_slot d → r ≡ there → r ≡ scan from f s (whole m d)
  ends_whole r is e = e ∙ (sym (so_cut (pred end)) ∙ so_all from f s m d (pred end) (omega arith))

-- The call

module _ {C : Type 0} (m : Meaning C) (w : World) (legal : Bool) (same : legal ≡ sizes_legal w.devices) where
  pub wrong_sizes : {why : Refusal} (r : Result (ℕ × ℕ × ℕ) Refusal) → Err why ≡ told legal SizesOutOfRange → r ≡ Err why → Does m (analysis_plan m w) w r w
  wrong_sizes r nay is = subst (λ r. Does m (analysis_plan m w) w r w) (sym (is ∙ ap Err (told_why legal nay))) (refused (sym same ∙ told_no legal SizesOutOfRange nay))

  pub does_analysis : (d : Devices) (q : Result Found Refusal) → Ok tt ≡ told legal SizesOutOfRange → d ≡ powered_on w.devices
      → q ≡ found_in (whole m d) (last_end (slots d)) → {r : Result (ℕ × ℕ × ℕ) Refusal} {v : World} → Does m (analysed_plan q) (record { devices = d; memory = out }) r v
      → Does m (analysis_plan m w) w r v
  does_analysis d q yea lit is {r = r} {v = v} x = granted (sym same ∙ told_yes legal SizesOutOfRange yea)
      (began d lit (subst (λ q. Does m (analysed_plan q) (record { devices = d; memory = out }) r v) is x))
