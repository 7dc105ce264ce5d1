-- What holds over any devices, after any calls with any outcomes and any making of servers anew.
use Rattle.std.proofs.Common.{◌≡◌, ℕ, Bool, true, false, ◌⊎◌, List, [], ◌∷◌, is_some, Result, refl, ap, ◌∙◌, inl, inr, arith}
use Rattle.std.proofs.lemmas.Bool.{both_ways, false≢true}
use Rattle.format.specs.Changes.{Meaning, Lawful}
use Rattle.recovery_log.specs.Log.{Numbered, pending}
use Rattle.rules.specs.declared.refusal.Refusal.{Refusal}
use Rattle.rules.specs.declared.refusal.Refusal.TheVariants.{NotInService}
use Rattle.promises.specs.AnyDevices.{ReachedFromAny, made_over, called, remade, ReadsOn, InService, InOrder, AppendsFit, AnyDevices}
use Rattle.rules.specs.Plans.{Does}
use Rattle.rules.specs.Reading.{at}
use Rattle.rules.specs.Restart.{whole, analysis_plan, redo_plan, undo_plan}
use Rattle.rules.specs.Runs.{ServiceCall, opens, fetches, records, ships, writes_out, commits, aborts, looks, checkpoints, Call, analysis, redo, undo, service, Answer, in_service_plan, service_plan, plan_of}
use Rattle.rules.specs.Service.{log_read, change_of}
use Rattle.rules.specs.State.{Devices, Working, Memory, out, analysed, redone, serving, World}
use Rattle.rules.specs.Tables.{is_job, next_of}
use Rattle.promises.proofs.AnyDevicesAbort.{abort_job, change_is}
use Rattle.promises.proofs.AnyDevicesCheckpoint.{take_checkpoint}
use Rattle.promises.proofs.AnyDevicesPlans.{base_powered_on, Base, kept, told, safe_fits}
use Rattle.promises.proofs.AnyDevicesRedo.{AnyRefusal, analysis_safe, redo_safe}
use Rattle.promises.proofs.AnyDevicesService.{Calm, ask, Serves, open_new, fetch_page, look_at, write_page, ship_page, record_change, commit_job, last_small, few}
use Rattle.promises.proofs.AnyDevicesSlots.{each_at}
use Rattle.promises.proofs.AnyDevicesStages.{sizes_parts, There, Ready, Stack, Serving, Fine}
use Rattle.promises.proofs.AnyDevicesTables.{open_job}
use Rattle.promises.proofs.AnyDevicesUndo.{undo_safe}
use Rattle.promises.proofs.Decoded.{whole_length}

module _ {C : Type 0} (m : Meaning C) (law : Lawful m) where
  -- Every call keeps what holds

  in_service_safe : (d : Devices) (s : Working) → Base d → Serving m d s → (c : ServiceCall) → Serves m (record { devices = d; memory = serving s }) (in_service_plan m c d s)
  in_service_safe d s b h opens = open_new m law d b s h
  in_service_safe d s b h (fetches j p n) = fetch_page m law d b s h j p n
  in_service_safe d s b h (records j p l bytes) = record_change m law d b s h j p l bytes
  in_service_safe d s b h (ships j p image) = ship_page m law d b s h j p image
  in_service_safe d s b h (writes_out p) = write_page m law d b s h p
  in_service_safe d s b h (commits j) = commit_job m law d b s h j
  in_service_safe d s b h (aborts j) = abort_job m law d b s h j
  in_service_safe d s b h (looks p n) = look_at m law d b s h p n
  in_service_safe d s b h checkpoints = take_checkpoint m law d b s h

  service_safe : (d : Devices) (memory : Memory) → Base d → Fine m d memory → (c : ServiceCall)
      → Serves m (record { devices = d; memory = memory }) (service_plan m c (record { devices = d; memory = memory }))
  service_safe d out b h c = ask NotInService refl (λ e. absurd (false≢true e))
  service_safe d (analysed f) b h c = ask NotInService refl (λ e. absurd (false≢true e))
  service_safe d (redone s) b h c = ask NotInService refl (λ e. absurd (false≢true e))
  service_safe d (serving s) b h c = ask NotInService refl (λ e. sure h.ready.power.pages (sure h.ready.power.log (in_service_safe d s b h c)))
    where
      -- what is insisted on holds
      sure : {t : Bool} {P : Type 0} → t ≡ true → P → (t ≡ false → ⊥) × (t ≡ true → P)
      sure {t = t} on p = (λ off. both_ways t off on, λ e. p)

  abbrev pub Holds : World → Type 0
  Holds w = Base w.devices × Fine m w.devices w.memory

  after_call : {w v : World} (c : Call) (r : Result (Answer c) Refusal) → Holds w → Does m (plan_of m c w) w r v → Holds v
  after_call {w = w} analysis r h x = kept m (Fine m) (AnyRefusal m) (Unit {0}) (λ d. tt) h.0 h.1 (analysis_safe m law w) x
  after_call {w = w} redo r h x = kept m (Fine m) (AnyRefusal m) (Unit {0}) (λ d. tt) h.0 h.1 (redo_safe m law w.devices w.memory h.0 h.1) x
  after_call {w = w} undo r h x = kept m (Fine m) (AnyRefusal m) (Unit {0}) (λ d. tt) h.0 h.1 (undo_safe m law w.devices w.memory h.0 h.1) x
  after_call {w = w} (service c) r h x = kept m (Fine m) Calm ⊥ (λ d. tt) h.0 h.1 (service_safe w.devices w.memory h.0 h.1 c) x

  pub holds : (w : World) → ReachedFromAny m w → Holds w
  holds w (made_over d sound) = (record { held = sound.log.held; room = sound.log.room }, tt)
  holds w (called {w = u} c r g x) = after_call c r (holds u g) x
  holds w (remade {w = u} true a b g) = let k = base_powered_on m (Fine m) Calm ⊥ u.devices (holds u g).0 in (record { held = k.held; room = k.room }, tt)
  holds w (remade {w = u} false a b g) = let k = (holds u g).0 in (record { held = k.held; room = k.room }, tt)

  -- What is promised

  reads_on : (d : Devices) (first : ℕ) → Ready m d first → ReadsOn m d first
  reads_on d first h = record {
    pages_powered = h.power.pages;
    log_powered = h.power.log;
    sizes = h.sizes;
    fits = λ n ge le. let one = h.one in each_at (There first) (whole m d) n h.there (omega arith) (omega (arith, whole_length m d)) ge;
  }

  in_service : (d : Devices) (s : Working) → Base d → Serving m d s → InService m d s
  in_service d s b h = record {
    reads_on = reads_on d s.first h.ready;
    room = let r = h.room in omega arith;
    nexts = next_is;
    copies = λ p. let k = h.copies p in let r = b.room in omega (arith, few m law d b s h);
    lasts = λ p. let k = last_small m law d b s h p in let r = b.room in omega (arith, few m law d b s h);
  }
    where
      top : (j n : ℕ) (xs : List (Numbered C)) → Stack (log_read m d s) j n xs → (n ≡ 0) ⊎ (is_some (change_of j (at (log_read m d s) n)) ≡ true)
      top j n [] k = inl k
      top j n (x ∷ xs) k = inr (ap is_some (ap (change_of j) k.0 ∙ change_is j x.record' k.1 k.2))

      next_is : (j : ℕ) → is_job j s.jobs ≡ true → (next_of j s.jobs ≡ 0) ⊎ (is_some (change_of j (at (log_read m d s) (next_of j s.jobs))) ≡ true)
      next_is j e = top j (next_of j s.jobs) (pending (log_read m d s) j) (open_job (log_read m d s) s.jobs j h.table e).stack

  in_order : (d : Devices) (memory : Memory) → Base d → Fine m d memory → InOrder m d memory
  in_order d out b h = tt
  in_order d (analysed f) b h = reads_on d f.first h.ready
  in_order d (redone s) b h = (reads_on d s.first h.ready, λ p. let k = h.copies p in let r = b.room in let n = (sizes_parts d h.ready.sizes).3 in omega arith)
  in_order d (serving s) b h = in_service d s b h

  calls_fit : (w : World) → Holds w → AppendsFit m w
  calls_fit w h analysis = safe_fits m (Fine m) (AnyRefusal m) (Unit {0}) w (analysis_plan m w) (analysis_safe m law w)
  calls_fit w h redo = safe_fits m (Fine m) (AnyRefusal m) (Unit {0}) w (redo_plan m w) (redo_safe m law w.devices w.memory h.0 h.1)
  calls_fit w h undo = safe_fits m (Fine m) (AnyRefusal m) (Unit {0}) w (undo_plan m w) (undo_safe m law w.devices w.memory h.0 h.1)
  calls_fit w h (service c) = safe_fits m (Fine m) Calm ⊥ w (service_plan m c w) (service_safe w.devices w.memory h.0 h.1 c)

  pub any_devices : AnyDevices m
  any_devices w g =
      let h = holds w g in
      record {
        in_order = in_order w.devices w.memory h.0 h.1;
        refused_quietly = λ c v r why x e. told m (Fine m) Calm ⊥ (λ z. z) (λ why k. k) why h.0 (service_safe w.devices w.memory h.0 h.1 c) x e;
        appends_fit = calls_fit w h;
      }
