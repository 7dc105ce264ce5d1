-- Where power is kept a restart finishes: every safe operation can be done, and so each pass can be accepted.
use Rattle.std.proofs.Common.{ℕ, List, [], ◌∷◌, length, Ok, Option, Result, sym, refl, subst, arith}
use Rattle.format.specs.declared.slot.Slot.{Slot}
use Rattle.format.specs.Changes.{Meaning, Lawful}
use Rattle.device.specs.LogStores.{SlotAppended, LogForced}
use Rattle.device.specs.PageStores.{PageWritten}
use Rattle.rules.specs.declared.refusal.Refusal.{Refusal}
use Rattle.rules.specs.Ledger.{Ledger, settled}
use Rattle.rules.specs.Plans.{Op, append, force, write, Did, Performed, done, next, Does, granted, passed, began, performed, powered_on}
use Rattle.promises.specs.Promises.{Restarted}
use Rattle.rules.specs.Reading.{last_end}
use Rattle.rules.specs.Restart.{whole, analysed_plan, Replay, redone_plan, undone, undone_plan}
use Rattle.rules.specs.Service.{appends}
use Rattle.rules.specs.State.{Devices, Found, Working, Memory, out, analysed, redone, serving, World, size, slots}
use Rattle.rules.specs.Tables.{least_start}
use Rattle.promises.proofs.Analysis.{AnalysisTrue, analysis_done, last_ends, last_inside}
use Rattle.promises.proofs.Appends.{safe_appends}
use Rattle.promises.proofs.Decoded.{whole_length}
use Rattle.promises.proofs.Finishing.{closes_plain}
use Rattle.promises.proofs.Invariants.{Kept, Powered, Analysed, Good}
use Rattle.promises.proofs.Operations.{safe_did}
use Rattle.promises.proofs.Powering.{powered_on_power, settles}
use Rattle.promises.proofs.Redo.{none_ahead_true, ReplayedTrue, redo_replays, redone_with, redo_done}
use Rattle.promises.proofs.Safety.{Safe, SafeOps, Dids}
use Rattle.promises.proofs.Undoing.{AllUndone, undo_true}

module _ {C : Type 0} (m : Meaning C) (law : Lawful m) where
  done_one : (h : Ledger C) (d : Devices) (op : Op C) → Kept m h d → Powered m d → Safe m h op d → (e : Devices) × (Did m op d e) × (Powered m e)
  done_one h d (append s) k p safe =
      let held = k.durable.forced in
      let room = safe.room in
      let long = whole_length m d in
      (_, Did.appended (SlotAppended.done p.log (omega arith) d.log.forced (omega arith) (omega arith) refl refl), record { pages = p.pages; log = refl })
  done_one h d force k p safe = (_, Did.forced (LogForced.done p.log refl refl), record { pages = p.pages; log = refl })
  done_one h d (write q page) k p safe = (_, Did.wrote (PageWritten.done p.pages safe.inside refl refl), record { pages = p.pages; log = p.log })

  done_all : (h : Ledger C) (ops : List (Op C)) (d : Devices) → Kept m h d → Powered m d → SafeOps m h ops d → (e : Devices) × Dids m ops d e
  done_all h [] d k p safe = (d, Dids.none)
  done_all h (op ∷ ops) d k p safe =
      let x = done_one h d op k p safe.0 in
      let y = done_all h ops x.0 (safe_did m law h op d x.0 k safe.0 x.1) x.2 (safe.1 x.0 x.1) in
      (y.0, Dids.next x.1 y.1)

  performed_all : {A : Type 0} {answer : Result A Refusal} {after : Memory} {ops : List (Op C)} {d e : Devices} → Dids m ops d e → Performed m answer after ops d answer (record { devices = e; memory = after })
  performed_all Dids.none = done
  performed_all (Dids.next x y) = next x (performed_all y)

  pub restart_finishes : (h : Ledger C) (w : World) → Good m h w → (v : World) × Restarted m w v
  restart_finishes h w g = (
    _,
    record {
      found = _;
      played = _;
      undone = _;
      after_analysis = _;
      after_redo = _;
      analysed = granted g.kept.durable.sizes
          (began d refl (subst (λ (o : Result Found Refusal). Does m (analysed_plan o) (record { devices = d; memory = out }) (Ok (f.first, length f.jobs, length f.dirty)) (record { devices = d; memory = analysed f }))
          (sym t.finds) (performed done)));
      redone = granted refl (passed a.power.pages (passed a.power.log (passed (none_ahead_true m d k.durable)
          (subst (λ (o : Result Replay Refusal). Does m (redone_plan m f (least_start f.dirty) o) (record { devices = d; memory = analysed f }) (Ok (least_start f.dirty, x.res.count))
          (record { devices = d; memory = redone s })) (sym x.replays) (performed done)))));
      served = granted refl (passed a.power.pages (passed a.power.log
          (subst (λ (o : Option Refusal). Does m (undone_plan m s (undone m d s).state o) (record { devices = d; memory = redone s }) answer (record { devices = all.0; memory = after }))
          (sym u.why) (performed (subst (λ (ss : List (Slot C)). Performed m answer after (appends ss (force ∷ [])) d answer (record { devices = all.0; memory = after })) (sym u.appended)
          (performed_all all.1))))));
    },
  )
    where
      d : Devices
      d = powered_on w.devices

      l : Ledger C
      l = settled (whole m d) h

      k : Kept m l d
      k = (settles m h w.devices g.kept).0

      t : AnalysisTrue m d (last_end (slots d))
      t = analysis_done m d (last_end (slots d)) k.durable (powered_on_power m w.devices) (last_ends m d k.durable) (last_inside m d)

      f : Found
      f = t.found

      a : Analysed m d f
      a = t.analysed

      x : ReplayedTrue m d f.dirty
      x = redo_replays m d f k.durable a

      s : Working
      s = redone_with m f x.res

      u : AllUndone m (size d) d.log.capacity (whole m d) s.copies (undone m d s)
      u = undo_true m d s k.durable (redo_done m d f x.res k.durable a x.replays)

      answer : Result (ℕ × ℕ) Refusal
      answer = Ok ((undone m d s).state.compensations, (undone m d s).state.ends)

      after : Memory
      after = serving (record { copies = (undone m d s).state.work.copies; jobs = (undone m d s).state.jobs; first = s.first })

      all : (e : Devices) × Dids m (appends u.slots (force ∷ [])) d e
      all = done_all l (appends u.slots (force ∷ [])) d k a.power
          (safe_appends m law l u.slots (force ∷ []) d k (closes_plain u.slots u.closes) u.legal u.exclusive (λ e b c. (tt, λ z y. tt)))
