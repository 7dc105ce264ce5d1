-- Slots appended one after the other, as the plans of abort and undo list them: what they leave as it was, and how such a plan ends. Assumes nothing.
use Rattle.std.proofs.Common.{◌≡◌, ℕ, ◌≤◌, ◌⊎◌, inl, inr, Bool, true, false, cond, eqb, List, [], ◌∷◌, ◌++◌, length, take, take_all, Some, None, Ok, Err, Option, Result, set, sym, refl, ap, subst, ◌∙◌, arith, length-append}
use Rattle.std.proofs.lemmas.Bool.{eqb-true, true≢false}
use Rattle.std.proofs.lemmas.List.{take-append-le}
use Rattle.std.proofs.lemmas.Option.{none-some}
use Rattle.format.specs.declared.page.Page.{Page}
use Rattle.format.specs.declared.slot.Slot.{Slot}
use Rattle.format.specs.declared.slot.Slot.TheVariants.{Record}
use Rattle.format.specs.declared.slot.PageRecord.{PageRecord}
use Rattle.format.specs.Changes.{Meaning}
use Rattle.format.specs.Slots.{slot_bytes}
use Rattle.device.specs.declared.log_store.LogFault.{LogFault}
use Rattle.recovery_log.specs.Log.{Log, new_number}
use Rattle.rules.specs.declared.refusal.Refusal.{Refusal}
use Rattle.rules.specs.Plans.{Op, append, Did, Failed, Performed, done, next, failed, with_log}
use Rattle.rules.specs.Playing.{play}
use Rattle.rules.specs.Reading.{known, at}
use Rattle.rules.specs.Service.{copy_of, Work, change_of, compensation, appends, taken_back}
use Rattle.rules.specs.State.{Devices, Memory, World, out, size, slots, log_length}
use Rattle.promises.proofs.Decoded.{at_above, AppendOutcome, put, kept, appended_whole}
use Rattle.promises.proofs.AnyDevicesScans.{clash}
use Rattle.calls.specs.Readers.{read_up_to}
use Rattle.calls.specs.TakingBack.{FirstOf, all, more, Appended, nothing, then_one, BreaksOff, stops, fails, WorkDone}

module _ {C : Type 0} where
  pub before_more : {ts ss us : List (Slot C)} → FirstOf ts ss → FirstOf ss us → FirstOf ts us
  before_more b all = b
  before_more b (more c) = more (before_more b c)

module _ {C : Type 0} (m : Meaning C) where
  record PutOn (s : Slot C) (d e : Devices) : Type 0 where
    slots_are : slots e ≡ slots d ++ slot_bytes m s ∷ []
    power : e.log.powered ≡ true
    size_same : size e ≡ size d
    capacity_same : e.log.capacity ≡ d.log.capacity

  put_on : {s : Slot C} {d e : Devices} → Did m (append s) d e → PutOn s d e
  put_on {s = s} {d = d} (Did.appended {l = l} x) = go (appended_whole m d (slot_bytes m s) (Ok tt) l x)
    where
      on : {why : LogFault} {p : Bool} → ((◌≡◌ {A = Result (Unit {0}) LogFault} (Ok tt) (Ok tt)) × (p ≡ true)) ⊎ ((◌≡◌ {A = Result (Unit {0}) LogFault} (Ok tt) (Err why)) × (p ≡ false)) → p ≡ true
      on (inl y) = y.1
      on (inr y) = clash _ _ (sym y.0)

      go : AppendOutcome m d (slot_bytes m s) (Ok tt) l → PutOn s d (with_log d l)
      go (put y) = record { slots_are = y.slots_are; power = on y.answer; size_same = refl; capacity_same = y.capacity_same }
      go (kept y) = absurd (true≢false y.refused)

  pub power_after : {s : Slot C} {d e : Devices} → Did m (append s) d e → e.log.powered ≡ true
  power_after x = (put_on x).power

  pub appended_powered : {ss : List (Slot C)} {d e : Devices} → Appended m ss d e → d.log.powered ≡ true → e.log.powered ≡ true
  appended_powered nothing p = p
  appended_powered (then_one x y) p = power_after y

  -- what appends leave as it was
  pub record Kept (d e : Devices) : Type 0 where
    pub size_same : size e ≡ size d
    pub capacity_same : e.log.capacity ≡ d.log.capacity
    pub taken : take (log_length d) (slots e) ≡ slots d
    pub longer : log_length d ≤ log_length e

  pub kept_by : {ss : List (Slot C)} {d e : Devices} → Appended m ss d e → Kept d e
  kept_by {d = d} nothing = record { size_same = refl; capacity_same = refl; taken = take_all (log_length d) (slots d) (omega arith); longer = omega arith }
  kept_by {d = d} (then_one {s = s} {e = e} x y) =
      let k = kept_by x in
      let p = put_on y in
      let longer = k.longer in
      record {
        size_same = p.size_same ∙ k.size_same;
        capacity_same = p.capacity_same ∙ k.capacity_same;
        taken = ap (take (log_length d)) p.slots_are ∙ (take-append-le (log_length d) (slots e) (slot_bytes m s ∷ []) longer ∙ k.taken);
        longer = let n = ap length p.slots_are ∙ length-append (slots e) (slot_bytes m s ∷ []) in omega arith;
      }

  -- what the code reads is what the log said at first
  same_log : {ss : List (Slot C)} {d e : Devices} (first : ℕ) → Appended m ss d e → read_up_to m e first (log_length d) ≡ known m (size d) first (slots d)
  same_log {d = d} {e = e} first x = let k = kept_by x in ap (λ n. known m n first (take (log_length d) (slots e))) k.size_same ∙ ap (known m (size d) first) k.taken

  -- with the operations that come after
  pub appended_then : {A : Type 0} {answer : Result A Refusal} {after : Memory} {ss : List (Slot C)} {ops : List (Op C)} {d e : Devices} {r : Result A Refusal} {w : World}
      → Appended m ss d e → Performed m answer after ops e r w → Performed m answer after (appends ss ops) d r w
  appended_then nothing y = y
  appended_then (then_one x z) y = appended_then x (next z y)

  fails_then : {A : Type 0} {answer : Result A Refusal} {after : Memory} {s : Slot C} {ts ss : List (Slot C)} (ops : List (Op C)) {d e f : Devices} {why : Refusal}
      → FirstOf (s ∷ ts) ss → Appended m ts d e → Failed m (append s) e why f → Performed m answer after (appends ss ops) d (Err why) (record { devices = f; memory = out })
  fails_then ops all x y = appended_then x (failed y)
  fails_then ops (more {s = t} b) x y = fails_then (append t ∷ ops) b x y

  -- Where a plan breaks off: after the slots came other operations, or it gave up

  module _ {A : Type 0} {ss : List (Slot C)} {d e : Devices} {why : Refusal} where
    pub broke_off : {answer : Result A Refusal} {after : Memory} (ops : List (Op C)) → BreaksOff m ss None d why e
        → Performed m answer after (appends ss ops) d (Err why) (record { devices = e; memory = out })
    broke_off ops (stops q x) = absurd (none-some why q)
    broke_off ops (fails b x y) = fails_then ops b x y

    pub gave_up : (z : Refusal) → BreaksOff m ss (Some z) d why e → Performed m {A = A} (Err z) out (appends ss []) d (Err why) (record { devices = e; memory = out })
    gave_up z (stops q x) = let same : z ≡ why = cc in subst (λ w. Performed m {A = A} (Err z) out (appends ss []) d (Err w) (record { devices = e; memory = out })) same (appended_then x done)
    gave_up z (fails b x y) = fails_then [] b x y

  pub nothing_done : (L : Log C) (d : Devices) (copies : List Page) → length L ≡ log_length d → WorkDone m L d (record { log = L; copies = copies; appended = [] }) d copies
  nothing_done L d copies long = record { appended = nothing; changes = λ j n. refl; long = long; copies_are = refl }

  -- One slot more, which is no change

  pub slot_done : {L : Log C} {d e f : Devices} {k : Work C} {copies : List Page} (s : Slot C) (after : List Page) → length L ≤ log_length d → ((j : ℕ) → change_of j (Some s) ≡ None)
      → WorkDone m L d k e copies → Did m (append s) e f → WorkDone m L d (record { log = Some s ∷ k.log; copies = after; appended = s ∷ k.appended }) f after
  slot_done {L = L} {d = d} {e = e} {k = k} s after le none st x =
      let p = put_on x in
      let longer = (kept_by st.appended).longer in
      let long = st.long in
      record {
        appended = then_one st.appended x;
        changes = λ j n. go j n (eqb n (new_number k.log)) refl longer;
        long = let n = ap length p.slots_are ∙ length-append (slots e) (slot_bytes m s ∷ []) in omega arith;
        copies_are = refl;
      }
    where
      go : (j n : ℕ) (b : Bool) → eqb n (new_number k.log) ≡ b → log_length d ≤ log_length e → change_of j (cond b (Some s) (at k.log n)) ≡ change_of j (at L n)
      go j n true q longer = let same = eqb-true n _ q in let long = st.long in none j ∙ sym (ap (change_of j) (at_above n L (omega arith)))
      go j n false q longer = st.changes j n

  pub change_done : {L : Log C} {d e f : Devices} {k : Work C} {copies : List Page} (r : PageRecord C) → length L ≤ log_length d → WorkDone m L d k e copies
      → Did m (append (Record (compensation r (copy_of copies r.page)))) e f
      → WorkDone m L d (taken_back m r k) f (set copies r.page (play m (compensation r (copy_of copies r.page)) (copy_of copies r.page)))
  change_done {L = L} {d = d} {e = e} {f = f} {k = k} r le st =
      subst (λ cs. Did m (append (Record (compensation r (copy_of cs r.page)))) e f → WorkDone m L d (taken_back m r k) f (set cs r.page (play m (compensation r (copy_of cs r.page)) (copy_of cs r.page)))) st.copies_are
      (λ x. slot_done (Record (compensation r (copy_of k.copies r.page))) (set k.copies r.page (play m (compensation r (copy_of k.copies r.page)) (copy_of k.copies r.page))) le (λ j. refl) st x)

  -- what the code finds is what the plan finds
  pub same_change : {d e : Devices} {k : Work C} {copies : List Page} (first j n : ℕ) → WorkDone m (known m (size d) first (slots d)) d k e copies
      → change_of j (at (read_up_to m e first (log_length d)) n) ≡ change_of j (at k.log n)
  same_change first j n st = ap (λ L. change_of j (at L n)) (same_log first st.appended) ∙ sym (st.changes j n)

  pub at_entry : {x : Option (PageRecord C)} {last : ℕ} (d e : Devices) (first j n : ℕ) → last ≡ log_length d → x ≡ change_of j (at (read_up_to m e first last) n)
      → x ≡ change_of j (at (read_up_to m e first (log_length d)) n)
  at_entry d e first j n same q = q ∙ ap (λ k. change_of j (at (read_up_to m e first k) n)) same
