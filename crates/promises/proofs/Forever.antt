-- Forced slots never change, whatever is performed and whatever comes of it, when power comes back and when a server is made again. Assumes nothing.
use Rattle.std.proofs.Common.{◌≡◌, ℕ, ◌≤◌, Bool, true, false, List, length, Result, sym, refl, ap, ◌∙◌, subst, arith}
use Rattle.std.proofs.lemmas.List.{length-set, length-take-le}
use Rattle.format.specs.Changes.{Meaning}
use Rattle.device.specs.declared.log_store.LogFault.{LogFault}
use Rattle.device.specs.declared.page_store.PageFault.{PageFault}
use Rattle.device.specs.LogStores.{LogModel, LogForced}
use Rattle.device.specs.PageStores.{PageModel, PageWritten}
use Rattle.rules.specs.declared.refusal.Refusal.{Refusal}
use Rattle.rules.specs.Plans.{Op, Plan, Did, Failed, Performed, done, Does, refused, granted, stopped, passed, began, performed, powered_on, with_log, with_pages}
use Rattle.rules.specs.Reading.{known, up_to}
use Rattle.rules.specs.Restart.{whole}
use Rattle.rules.specs.Runs.{left_over, Later, now, after, anew}
use Rattle.rules.specs.State.{Devices, Memory, World, size, slots, log_length}
use Rattle.promises.proofs.Cuts.{up_to_up_to}
use Rattle.promises.proofs.Decoded.{up_to_more, whole_length, whole_powered_on, AppendOutcome, put, kept, appended_whole, forced_whole}
use Rattle.rules.proofs.Outcomes.{Held}
use Rattle.promises.proofs.Truths.{cut_same}

module _ {C : Type 0} (m : Meaning C) where
  -- what was forced stands, and stays forced
  pub record Forever (d e : Devices) : Type 0 where
    pub stands : up_to d.log.forced (whole m e) ≡ up_to d.log.forced (whole m d)
    pub grows : d.log.forced ≤ e.log.forced

  -- no more is forced than there is
  record Onward (d e : Devices) : Type 0 where
    forever : Forever d e
    held : Held e

  pub forever_same : (d : Devices) → Forever d d
  forever_same d = record { stands = refl; grows = omega arith }

  pub forever_then : (d e f : Devices) → Forever d e → Forever e f → Forever d f
  forever_then d e f a b = let u = a.grows in let v = b.grows in record {
    stands = cut_same (whole m f) (whole m e) e.log.forced b.stands d.log.forced u ∙ a.stands;
    grows = omega arith;
  }

  onward_then : (d e f : Devices) → Onward d e → Onward e f → Onward d f
  onward_then d e f a b = record { forever = forever_then d e f a.forever b.forever; held = b.held }

  -- Operations

  appended : (d : Devices) (b : List ℕ) (r : Result (Unit {0}) LogFault) (l : LogModel) → Held d → AppendOutcome m d b r l → Onward d (with_log d l)
  appended d b r l held (put x) = let n = x.length_is in let hi = x.held in record {
    forever = record { stands = ap (up_to d.log.forced) x.grown ∙ up_to_more d.log.forced _ (whole m d) (omega (arith, whole_length m d)); grows = x.raised };
    held = omega arith;
  }
  appended d b r l held (kept x) = let hi = x.held held in record {
    forever = record { stands = ap (up_to d.log.forced) x.same; grows = x.raised };
    held = rw x.slots_same hi;
  }

  forced : (d : Devices) (r : Result (Unit {0}) LogFault) (l : LogModel) → Held d → LogForced d.log r l → Onward d (with_log d l)
  forced d r l held y = let x = forced_whole m d r l y in record {
    forever = record { stands = ap (up_to d.log.forced) x.same; grows = x.raised held };
    held = rw x.slots_same (x.held held);
  }

  same_size : (d : Devices) (s : PageModel) → Held d → length s.pages ≡ size d → Onward d (with_pages d s)
  same_size d s held e = record {
    forever = record { stands = ap (λ (n : ℕ). up_to d.log.forced (known m n 1 (slots d))) e; grows = omega arith };
    held = held;
  }

  written : (d : Devices) (p : ℕ) (b : List ℕ) (r : Result (Unit {0}) PageFault) (s : PageModel) → Held d → PageWritten d.pages p b r s → Onward d (with_pages d s)
  written d p b r s held (PageWritten.no_power t q a) = same_size d s held (ap (λ (x : PageModel). length x.pages) a)
  written d p b r s held (PageWritten.outside t o q a) = same_size d s held (ap (λ (x : PageModel). length x.pages) a)
  written d p b r s held (PageWritten.done t o q a) = same_size d s held (ap (λ (x : PageModel). length x.pages) a ∙ length-set d.pages.pages p b)
  written d p b r s held (PageWritten.lost_old t o q a) = same_size d s held (ap (λ (x : PageModel). length x.pages) a)
  written d p b r s held (PageWritten.lost_new t o q a) = same_size d s held (ap (λ (x : PageModel). length x.pages) a ∙ length-set d.pages.pages p b)

  did_onward : {op : Op C} {d e : Devices} → Held d → Did m op d e → Onward d e
  did_onward {d = d} held (Did.appended {l = l} x) = appended d _ _ l held (appended_whole m d _ _ l x)
  did_onward {d = d} held (Did.forced {l = l} x) = forced d _ l held x
  did_onward {d = d} held (Did.wrote {s = s} x) = written d _ _ _ s held x

  failed_onward : {op : Op C} {d e : Devices} {why : Refusal} → Held d → Failed m op d why e → Onward d e
  failed_onward {d = d} held (Failed.append_failed {l = l} x) = appended d _ _ l held (appended_whole m d _ _ l x)
  failed_onward {d = d} held (Failed.force_failed {l = l} x) = forced d _ l held x
  failed_onward {d = d} held (Failed.write_failed {s = s} x) = written d _ _ _ s held x

  -- Power

  powered_on_onward : (d : Devices) → Held d → Onward d (powered_on d)
  powered_on_onward d held = record {
    forever = record { stands = ap (up_to d.log.forced) (whole_powered_on m d) ∙ up_to_up_to d.log.forced d.log.forced (whole m d) (omega arith); grows = omega arith };
    held = rw (length-take-le d.log.forced d.log.slots held) (omega arith);
  }

  left_over_onward : (d : Devices) (cut a b : Bool) → Held d → Onward d (left_over m cut a b d)
  left_over_onward d true a b held = let on = powered_on_onward d held in record { forever = record { stands = on.forever.stands; grows = on.forever.grows }; held = on.held }
  left_over_onward d false a b held = record { forever = record { stands = refl; grows = omega arith }; held = held }

  -- Plans

  performed_onward : {A : Type 0} {answer : Result A Refusal} {then : Memory} {ops : List (Op C)} {d : Devices} {r : Result A Refusal} {w : World} → Held d
      → Performed m answer then ops d r w → Onward d w.devices
  performed_onward {d = d} held done = record { forever = forever_same d; held = held }
  performed_onward {d = d} {w = w} held (Performed.next {e = e} x p) = let one = did_onward held x in onward_then d e w.devices one (performed_onward one.held p)
  performed_onward held (Performed.failed x) = failed_onward held x

  does_onward : {A : Type 0} {p : Plan C A} {w v : World} {r : Result A Refusal} → Held w.devices → Does m p w r v → Onward w.devices v.devices
  does_onward {w = w} held (refused e) = record { forever = forever_same w.devices; held = held }
  does_onward held (granted e x) = does_onward held x
  does_onward {w = w} held (stopped e) = record { forever = forever_same w.devices; held = held }
  does_onward held (passed e x) = does_onward held x
  does_onward {w = w} {v = v} held (began d e x) =
      let on = subst (Onward w.devices) (sym e) (powered_on_onward w.devices held) in
      onward_then w.devices d v.devices on (does_onward on.held x)
  does_onward held (performed x) = performed_onward held x

  later_onward : {w v : World} → Held w.devices → Later m w v → Onward w.devices v.devices
  later_onward {w = w} held now = record { forever = forever_same w.devices; held = held }
  later_onward {w = w} {v = v} held (after {u = u} c r l x) = let on = later_onward held l in onward_then w.devices u.devices v.devices on (does_onward on.held x)
  later_onward {w = w} {v = v} held (anew {u = u} cut a b l) = let on = later_onward held l in
      onward_then w.devices u.devices v.devices on (left_over_onward u.devices cut a b on.held)

  pub later_forever : (w v : World) → w.devices.log.forced ≤ log_length w.devices → Later m w v → Forever w.devices v.devices
  later_forever w v held l = (later_onward held l).forever
