-- What the runner makes of a plan is something that the plan may come to. Assumes nothing.
use Rattle.std.proofs.Common.{◌≡◌, ℕ, ◌<◌, ◌≤◌, Bool, true, false, ltb, List, [], ◌∷◌, length, Ok, Err, Result, sym, refl, subst, arith, length-append}
use Rattle.std.proofs.lemmas.List.{length-take-le}
use Rattle.std.proofs.lemmas.Bool.{ltb-true, ltb-false}
use Rattle.format.specs.declared.page.Page.{Page}
use Rattle.format.specs.declared.slot.Slot.{Slot}
use Rattle.format.specs.Changes.{Meaning}
use Rattle.format.specs.Pages.{page_bytes}
use Rattle.format.specs.Slots.{slot_bytes}
use Rattle.device.specs.declared.log_store.LogFault.{LogFault}
use Rattle.device.specs.PageStores.{PageWritten}
use Rattle.device.specs.LogStores.{LogModel, SlotAppended, LogForced}
use Rattle.rules.specs.declared.refusal.Refusal.{Refusal}
use Rattle.rules.specs.Plans.{Op, append, force, write, Plan, asks, insists, powers_on, performs, Did, Failed, Performed, done, next, Does, refused, granted, stopped, passed, began, performed, powered_on}
use Rattle.rules.specs.Runner.{Failure, Left, old, new, without_slot, with_its_slot, more, fails_now, raised, Made, append_by, append_in, append_with, force_by, force_with, write_by, write_in, write_with, run_op, run_ops, run, go_on, later}
use Rattle.rules.specs.Examples.{Event, Point, history, Reached}
use Rattle.rules.specs.Ledger.{Ledger}
use Rattle.rules.specs.Runs.{Reaches, made, called, remade, plan_of}
use Rattle.rules.specs.State.{Devices, Memory, World}

-- the forced count is at most the length
abbrev pub Held : Devices → Type 0
Held d = d.log.forced ≤ length d.log.slots

module _ {C : Type 0} (m : Meaning C) where
  data Outcome (op : Op C) (d : Devices) : Made → Type 0 where
    did : {e : Devices} → Did m op d e → Outcome op d (record { answer = Ok tt; devices = e })
    failed : {why : Refusal} {e : Devices} → Failed m op d why e → Outcome op d (record { answer = Err why; devices = e })

  -- Appends

  module _ (f : Failure) (d : Devices) (s : Slot C) (h : Held d) (power : d.log.powered ≡ true) where
    lost : (x : Left) → length d.log.slots < d.log.capacity → Outcome (append s) d (append_by true (record { countdown = f.countdown; left = x; raise = f.raise }) d (slot_bytes m s))
    lost old room = failed (Failed.append_failed (SlotAppended.lost_after power room _ (omega arith) (omega arith) refl refl))
    lost new room = failed (Failed.append_failed (SlotAppended.lost_after power room _ (omega arith) (omega arith) refl refl))
    lost (without_slot n) room = failed (Failed.append_failed (SlotAppended.lost_before power room _ (omega arith) (omega arith) refl refl))
    lost with_its_slot room = failed (Failed.append_failed (SlotAppended.lost_after power room _ (omega arith) (omega arith) refl refl))
    lost (more n) room = failed (Failed.append_failed (SlotAppended.lost_after power room _ (omega arith) (omega arith) refl refl))

    by_fate : length d.log.slots < d.log.capacity → (x : Bool) → Outcome (append s) d (append_by x f d (slot_bytes m s))
    by_fate room true = lost f.left room
    by_fate room false = did (Did.appended (SlotAppended.done power room (raised f d.log) (omega arith) (omega arith) refl refl))

    append_room : (t : Bool) → ltb (length d.log.slots) d.log.capacity ≡ t → Outcome (append s) d (append_in t f d (slot_bytes m s))
    append_room false e = failed (Failed.append_failed (SlotAppended.full power (ltb-false _ _ e) refl refl))
    append_room true e = by_fate (ltb-true _ _ e) (fails_now f)

  append_outcome : (f : Failure) (d : Devices) (s : Slot C) → Held d → (t : Bool) → d.log.powered ≡ t → Outcome (append s) d (append_with t f d (slot_bytes m s))
  append_outcome f d s h true e = append_room f d s h e (ltb (length d.log.slots) d.log.capacity) refl
  append_outcome f d s h false e = failed (Failed.append_failed (SlotAppended.no_power e refl refl))

  -- Forces

  force_outcome : (f : Failure) (d : Devices) → Held d → (t : Bool) → d.log.powered ≡ t → Outcome force d (force_with t f d)
  force_outcome f d h false e = failed (Failed.force_failed (LogForced.no_power e refl refl))
  force_outcome f d h true e = go (fails_now f)
    where
      go : (x : Bool) → Outcome force d (force_by x f d)
      go true = failed (Failed.force_failed (LogForced.lost e _ (omega arith) (omega arith) refl refl))
      go false = did (Did.forced (LogForced.done e refl refl))

  -- Writes

  write_lost : (f : Failure) (d : Devices) (p : ℕ) (page : Page) → d.pages.powered ≡ true → p < length d.pages.pages → (x : Left)
      → Outcome (write p page) d (write_by true (record { countdown = f.countdown; left = x; raise = f.raise }) d p (page_bytes page))
  write_lost f d p page e lt old = failed (Failed.write_failed (PageWritten.lost_old e lt refl refl))
  write_lost f d p page e lt new = failed (Failed.write_failed (PageWritten.lost_new e lt refl refl))
  write_lost f d p page e lt (without_slot n) = failed (Failed.write_failed (PageWritten.lost_new e lt refl refl))
  write_lost f d p page e lt with_its_slot = failed (Failed.write_failed (PageWritten.lost_new e lt refl refl))
  write_lost f d p page e lt (more n) = failed (Failed.write_failed (PageWritten.lost_new e lt refl refl))

  write_outcome : (f : Failure) (d : Devices) (p : ℕ) (page : Page) (t : Bool) → d.pages.powered ≡ t → Outcome (write p page) d (write_with t f d p (page_bytes page))
  write_outcome f d p page false e = failed (Failed.write_failed (PageWritten.no_power e refl refl))
  write_outcome f d p page true e = inside (ltb p (length d.pages.pages)) refl
    where
      by_fate : p < length d.pages.pages → (x : Bool) → Outcome (write p page) d (write_by x f d p (page_bytes page))
      by_fate lt true = write_lost f d p page e lt f.left
      by_fate lt false = did (Did.wrote (PageWritten.done e lt refl refl))

      inside : (t : Bool) → ltb p (length d.pages.pages) ≡ t → Outcome (write p page) d (write_in t f d p (page_bytes page))
      inside false q = failed (Failed.write_failed (PageWritten.outside e (ltb-false _ _ q) refl refl))
      inside true q = by_fate (ltb-true _ _ q) (fails_now f)

  outcome : (f : Failure) (d : Devices) (op : Op C) → Held d → Outcome op d (run_op m f d op)
  outcome f d (append s) h = append_outcome f d s h d.log.powered refl
  outcome f d force h = force_outcome f d h d.log.powered refl
  outcome f d (write p page) h = write_outcome f d p page d.pages.powered refl

  -- Plans

  held_append : (l k : LogModel) (b : List ℕ) (r : Result (Unit {0}) LogFault) → SlotAppended l b r k → l.forced ≤ length l.slots → k.forced ≤ length k.slots
  held_append l k b r (SlotAppended.no_power e q a) h = rw a h
  held_append l k b r (SlotAppended.full e c q a) h = rw a h
  held_append l k b r (SlotAppended.done e c f lo hi q a) h = rw (a, length-append) (omega arith)
  held_append l k b r (SlotAppended.lost_before e c f lo hi q a) h = rw a hi
  held_append l k b r (SlotAppended.lost_after e c f lo hi q a) h = rw (a, length-append) (omega arith)

  held_force : (l k : LogModel) (r : Result (Unit {0}) LogFault) → LogForced l r k → l.forced ≤ length l.slots → k.forced ≤ length k.slots
  held_force l k r (LogForced.no_power e q a) h = rw a h
  held_force l k r (LogForced.done e q a) h = rw a (omega arith)
  held_force l k r (LogForced.lost e f lo hi q a) h = rw a hi

  held_did : {op : Op C} {d e : Devices} → Did m op d e → Held d → Held e
  held_did (Did.appended x) h = held_append _ _ _ _ x h
  held_did (Did.forced x) h = held_force _ _ _ x h
  held_did (Did.wrote x) h = h

  held_failed : {op : Op C} {d e : Devices} {why : Refusal} → Failed m op d why e → Held d → Held e
  held_failed (Failed.append_failed x) h = held_append _ _ _ _ x h
  held_failed (Failed.force_failed x) h = held_force _ _ _ x h
  held_failed (Failed.write_failed x) h = h

  held_performed : {A : Type 0} {answer : Result A Refusal} {after : Memory} {ops : List (Op C)} {d : Devices} {r : Result A Refusal} {w : World} → Performed m answer after ops d r w → Held d → Held w.devices
  held_performed done h = h
  held_performed (next x p) h = held_performed p (held_did x h)
  held_performed (Performed.failed x) h = held_failed x h

  ops_outcome : {A : Type 0} (r : Result A Refusal) (after : Memory) (f : Failure) (ops : List (Op C)) (d : Devices) → Held d
      → Performed m r after ops d (run_ops m r after f ops d).answer (run_ops m r after f ops d).world
  ops_outcome r after f [] d h = done
  ops_outcome r after f (op ∷ ops) d h = go (run_op m f d op) (outcome f d op h) (λ e q. ops_outcome r after (later f) ops e q)
    where
      go : (x : Made) → Outcome op d x → ((e : Devices) → Held e → Performed m r after ops e (run_ops m r after (later f) ops e).answer (run_ops m r after (later f) ops e).world)
          → Performed m r after (op ∷ ops) d (go_on m (run_ops m r after (later f) ops) x.devices x.answer).answer (go_on m (run_ops m r after (later f) ops) x.devices x.answer).world
      go x (did {e} y) rest = next y (rest e (held_did y h))
      go x (failed y) rest = Performed.failed y

  -- power that comes back cuts the log to the forced slots
  held_powered_on : (d : Devices) → Held d → Held (powered_on d)
  held_powered_on d h = rw (length-take-le d.log.forced d.log.slots h) (omega arith)

  pub run_does : {A : Type 0} (f : Failure) (p : Plan C A) (w : World) → Held w.devices → Does m p w (run m f p w).answer (run m f p w).world
  run_does f (asks true why p) w h = granted refl (run_does f p w h)
  run_does f (asks false why p) w h = refused refl
  run_does f (insists true why p) w h = passed refl (run_does f p w h)
  run_does f (insists false why p) w h = stopped refl
  run_does f (powers_on g) w h = began (powered_on w.devices) refl (run_does f (g (powered_on w.devices)) _ (held_powered_on w.devices h))
  run_does f (performs ops r after) w h = performed (ops_outcome r after f ops w.devices h)

  pub held_does : {A : Type 0} {p : Plan C A} {w v : World} {r : Result A Refusal} → Does m p w r v → Held w.devices → Held v.devices
  held_does (refused e) h = h
  held_does (granted e x) h = held_does x h
  held_does (stopped e) h = h
  held_does (passed e x) h = held_does x h
  held_does {w = w} (began d e x) h = held_does x (subst Held (sym e) (held_powered_on w.devices h))
  held_does (performed x) h = held_performed x h

  pub held_reached : {h : Ledger C} {w : World} → Reaches m h w → Held w.devices
  held_reached (made n c a b p q r s) = omega arith
  held_reached (called c r x y) = held_does y (held_reached x)
  held_reached (remade {w = w} true a b x) = held_powered_on w.devices (held_reached x)
  held_reached (remade false a b x) = held_reached x

  -- a history of calls with their fates is a run
  pub history_reached : (es : List Event) (s : Point C) → Reached m s → Reached m (history m es s)
  history_reached [] s x = x
  history_reached (e ∷ es) s x = history_reached es _ (called e.call _ x (run_does e.failure (plan_of m e.call s.world) s.world (held_reached x)))
