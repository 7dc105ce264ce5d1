-- Runs: what is reached from a server just made over blank devices, by any calls with any outcomes and by making a server again. Assumes nothing.
use Rattle.std.specs.Prelude.{ℕ, ◌≤◌, Bool, cond, List, [], replicate, Ok, Err, Result, ◌==◌}
use Rattle.format.specs.Changes.{Meaning}
use Rattle.rules.specs.declared.refusal.Refusal.{Refusal}
use Rattle.rules.specs.Numbers.{number_of}
use Rattle.rules.specs.Ledger.{Ledger, empty, with_entry, with_kept, with_doubt, settled}
use Rattle.rules.specs.Plans.{Plan, Does, powered_on}
use Rattle.rules.specs.Restart.{whole, analysis_plan, redo_plan, undo_plan}
use Rattle.rules.specs.Service.{in_service, open_in, fetch_in, record_in, ship_in, write_out_in, commit_in, abort_in, look_in, checkpoint_in}
use Rattle.rules.specs.State.{Devices, out, World, Working}

-- Calls, with the job, the page, and what else they are given: a buffer's length, an LRC, bytes

pub data ServiceCall : Type 0 where
  opens : ServiceCall
  fetches : ℕ → ℕ → ℕ → ServiceCall
  records : ℕ → ℕ → ℕ → List ℕ → ServiceCall
  ships : ℕ → ℕ → List ℕ → ServiceCall
  writes_out : ℕ → ServiceCall
  commits : ℕ → ServiceCall
  aborts : ℕ → ServiceCall
  looks : ℕ → ℕ → ServiceCall
  checkpoints : ServiceCall

pub data Call : Type 0 where
  analysis : Call
  redo : Call
  undo : Call
  service : ServiceCall → Call

abbrev pub Answers : ServiceCall → Type 0
Answers opens = ℕ
Answers (fetches j p n) = List ℕ
Answers (records j p l b) = Unit {0}
Answers (ships j p b) = Unit {0}
Answers (writes_out p) = Unit {0}
Answers (commits j) = ℕ
Answers (aborts j) = Unit {0}
Answers (looks p n) = List ℕ
Answers checkpoints = ℕ

abbrev pub Answer : Call → Type 0
Answer analysis = ℕ × ℕ × ℕ
Answer redo = ℕ × ℕ
Answer undo = ℕ × ℕ
Answer (service c) = Answers c

module _ {C : Type 0} (m : Meaning C) where
  -- the plan of a call once the server is known to serve
  abbrev pub in_service_plan : (c : ServiceCall) → Devices → Working → Plan C (Answers c)
  in_service_plan opens d s = open_in m d s
  in_service_plan (fetches j p n) d s = fetch_in m j p n d s
  in_service_plan (records j p l b) d s = record_in m j p l b d s
  in_service_plan (ships j p b) d s = ship_in m j p b d s
  in_service_plan (writes_out p) d s = write_out_in m p d s
  in_service_plan (commits j) d s = commit_in m j d s
  in_service_plan (aborts j) d s = abort_in m j d s
  in_service_plan (looks p n) d s = look_in m p n d s
  in_service_plan checkpoints d s = checkpoint_in m d s

  abbrev pub service_plan : (c : ServiceCall) → World → Plan C (Answers c)
  service_plan c w = in_service w (in_service_plan c w.devices)

  abbrev pub plan_of : (c : Call) → World → Plan C (Answer c)
  plan_of analysis w = analysis_plan m w
  plan_of redo w = redo_plan m w
  plan_of undo w = undo_plan m w
  plan_of (service c) w = service_plan c w

  -- The ledger is told a call, its answer, and the state after it

  abbrev pub doubted : ℕ → Refusal → Ledger C → Ledger C
  doubted j why h = cond (number_of why == 17) (with_doubt j h) h

  abbrev pub accepted : (c : ServiceCall) → Ledger C → Ledger C
  accepted opens h = h
  accepted (fetches j p n) h = h
  accepted (records j p l b) h = with_entry j p (m.reads b) h
  accepted (ships j p b) h = h
  accepted (writes_out p) h = h
  accepted (commits j) h = with_kept j h
  accepted (aborts j) h = h
  accepted (looks p n) h = h
  accepted checkpoints h = h

  abbrev pub denied : (c : ServiceCall) → Refusal → Ledger C → Ledger C
  denied opens why h = h
  denied (fetches j p n) why h = h
  denied (records j p l b) why h = h
  denied (ships j p b) why h = h
  denied (writes_out p) why h = h
  denied (commits j) why h = doubted j why h
  denied (aborts j) why h = h
  denied (looks p n) why h = h
  denied checkpoints why h = h

  abbrev pub told_service : (c : ServiceCall) → Result (Answers c) Refusal → Ledger C → Ledger C
  told_service c (Ok a) h = accepted c h
  told_service c (Err why) h = denied c why h

  -- analysis settles the doubtful jobs as soon as it has powered the log on, and so unless the sizes are out of range
  abbrev pub resolved : Refusal → World → Ledger C → Ledger C
  resolved why w h = cond (number_of why == 1) h (settled (whole m w.devices) h)

  abbrev pub told_analysis : Result (ℕ × ℕ × ℕ) Refusal → World → Ledger C → Ledger C
  told_analysis (Ok a) w h = settled (whole m w.devices) h
  told_analysis (Err why) w h = resolved why w h

  abbrev pub told : (c : Call) → Result (Answer c) Refusal → World → Ledger C → Ledger C
  told analysis r w h = told_analysis r w h
  told redo r w h = h
  told undo r w h = h
  told (service c) r w h = told_service c r h

  -- Runs

  abbrev pub blank : ℕ → ℕ → Bool → Bool → Devices
  blank n capacity a b = record {
    pages = record { pages = replicate n (replicate 256 0); powered = a };
    log = record { capacity = capacity; slots = []; forced = 0; powered = b };
  }

  abbrev pub with_powers : Bool → Bool → Devices → Devices
  with_powers a b d = record {
    pages = record { pages = d.pages.pages; powered = a };
    log = record { capacity = d.log.capacity; slots = d.log.slots; forced = d.log.forced; powered = b };
  }

  -- what a server that is made again finds: the devices with whatever power they have then. A log that was made again before it has been powered on by
  -- that, and is cut to its forced slots
  abbrev pub left_over : Bool → Bool → Bool → Devices → Devices
  left_over cut a b d = with_powers a b (cond cut (powered_on d) d)

  -- The process may end between calls and a server be made again. A process that ends within a call is that call answered 17 at its next operation, or at
  -- its last, and then a server made again; before the first operation it is as if the call had not been made, but for the power.
  pub data Reaches : Ledger C → World → Type 0 where
    made : (n capacity : ℕ) (a b : Bool) → 1 ≤ n → n ≤ 64 → 8 ≤ capacity → capacity ≤ 4096
        → Reaches empty (record { devices = blank n capacity a b; memory = out })
    called : {h : Ledger C} {w v : World} (c : Call) (r : Result (Answer c) Refusal) → Reaches h w → Does m (plan_of c w) w r v → Reaches (told c r v h) v
    remade : {h : Ledger C} {w : World} (cut a b : Bool) → Reaches h w → Reaches h (record { devices = left_over cut a b w.devices; memory = out })

  -- the second state is the first or comes after it in a run
  pub data Later (w : World) : World → Type 0 where
    now : Later w w
    after : {u v : World} (c : Call) (r : Result (Answer c) Refusal) → Later w u → Does m (plan_of c u) u r v → Later w v
    anew : {u : World} (cut a b : Bool) → Later w u → Later w (record { devices = left_over cut a b u.devices; memory = out })
