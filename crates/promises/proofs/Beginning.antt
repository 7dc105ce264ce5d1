-- A restart over blank devices.
use Rattle.std.proofs.Common.{◌≡◌, ℕ, ◌≤◌, Bool, true, false, eqb, [], length, replicate, Ok, Result, refl, ap, ◌∙◌, subst}
use Rattle.std.proofs.lemmas.Bool.{both_ways}
use Rattle.format.specs.Changes.{Meaning, Lawful}
use Rattle.format.specs.Pages.{blank_page}
use Rattle.rules.specs.declared.refusal.Refusal.{Refusal}
use Rattle.rules.specs.Ledger.{Ledger, empty, settled}
use Rattle.rules.specs.Plans.{Does, powered_on}
use Rattle.promises.specs.Promises.{Begins, power_lost}
use Rattle.rules.specs.Restart.{whole, Replay, redo_plan, undo_plan, analysis_plan}
use Rattle.rules.specs.Runs.{blank}
use Rattle.rules.specs.State.{Devices, Found, Working, out, analysed, redone, World, is_serving}
use Rattle.promises.proofs.Finishing.{undo_next}
use Rattle.promises.proofs.Invariants.{Analysed, Redone, Good}
use Rattle.promises.proofs.Powering.{kept_powered_on, settles, kept_blank}
use Rattle.promises.proofs.Redo.{blank_found, blank_replayed, redone_with}
use Rattle.promises.proofs.Restarting.{analysis_comes, redo_next}
use Rattle.promises.proofs.Undoing.{undo_idle}

module _ {C : Type 0} (m : Meaning C) (law : Lawful m) (n capacity : ℕ) (a b : Bool) (some : 1 ≤ n) (few : n ≤ 64) (long : 8 ≤ capacity) (short : capacity ≤ 4096) where
  -- a server just made over blank devices, and the devices with power
  abbrev pub new : World
  new = record { devices = blank m n capacity a b; memory = out }

  abbrev powered : Devices
  powered = powered_on new.devices

  good_new : Good m empty new
  good_new = record { kept = kept_blank m n capacity a b some few long short; stage = tt }

  abbrev nothing : Found
  nothing = record { jobs = []; dirty = []; first = 1 }

  abbrev told_new : Ledger C
  told_new = settled (whole m powered) empty

  found_nothing : (v : World) (r : Result (ℕ × ℕ × ℕ) Refusal) → Does m (analysis_plan m new) new r v → (r ≡ Ok (1, 0, 0)) × (v ≡ record { devices = powered; memory = analysed nothing })
  found_nothing v r x =
      let y = analysis_comes m empty new v r good_new (kept_powered_on m empty new.devices good_new.kept) x in
      let e = blank_found m n capacity a b in
      let f = y.finds in
      let same : y.found ≡ nothing = cc in
      (y.answer ∙ ap (λ (f : Found). Ok (f.first, length f.jobs, length f.dirty)) same, y.leaves ∙ ap (λ (f : Found). record { devices = powered; memory = analysed f }) same)

  good_analysed : (v : World) (r : Result (ℕ × ℕ × ℕ) Refusal) → Does m (analysis_plan m new) new r v → Good m told_new (record { devices = powered; memory = analysed nothing })
  good_analysed v r x =
      let y = analysis_comes m empty new v r good_new (kept_powered_on m empty new.devices good_new.kept) x in
      let e = blank_found m n capacity a b in
      let f = y.finds in
      let same : y.found ≡ nothing = cc in
      let s = settles m empty new.devices good_new.kept in
      record { kept = s.0; stage = (s.1, subst (Analysed m powered) same y.stage) }

  abbrev ready_to_undo : Working
  ready_to_undo = record { copies = replicate n blank_page; jobs = []; first = 1 }

  played_nothing : (u : World) (r : Result (ℕ × ℕ) Refusal) → Good m told_new (record { devices = powered; memory = analysed nothing })
      → Does m (redo_plan m (record { devices = powered; memory = analysed nothing })) (record { devices = powered; memory = analysed nothing }) r u
      → (r ≡ Ok (0, 0)) × (u ≡ record { devices = powered; memory = redone ready_to_undo }) × Good m told_new (record { devices = powered; memory = redone ready_to_undo })
  played_nothing u r g x =
      let y = redo_next m told_new powered nothing u r g x in
      let e = blank_replayed m n capacity a b in
      let f = y.replays in
      let same : y.res ≡ record { copies = replicate n blank_page; count = 0 } = cc in (
        y.answer ∙ ap (λ (x : Replay). Ok (0, x.count)) same,
        y.leaves ∙ ap (λ (x : Replay). record { devices = powered; memory = redone (redone_with m nothing x) }) same,
        record { kept = g.kept; stage = (g.stage.0, subst (λ (x : Replay). Redone m powered (redone_with m nothing x)) same y.stage) },
      )

  undone_nothing : (z : World) (r : Result (ℕ × ℕ) Refusal) → Good m told_new (record { devices = powered; memory = redone ready_to_undo })
      → Does m (undo_plan m (record { devices = powered; memory = redone ready_to_undo })) (record { devices = powered; memory = redone ready_to_undo }) r z → power_lost r ≡ false
      → (r ≡ Ok (0, 0)) × (is_serving z.memory ≡ true)
  undone_nothing z r g x kept = undo_next m law (λ r z. power_lost r ≡ false → (r ≡ Ok (0, 0)) × (is_serving z.memory ≡ true)) told_new powered ready_to_undo z r g
      (λ why e num mem k p. absurd (both_ways _ p (ap power_lost e ∙ ap (λ (n : ℕ). eqb n 17) num)))
      (λ u k s p. (u.answer ∙ ap (λ u. Ok (u.state.compensations, u.state.ends)) (undo_idle m powered ready_to_undo refl), ap is_serving u.memory)) x kept

  pub begins : Begins m new
  begins = record {
    analysed = λ v r x. (found_nothing v r x).0;
    redone = λ v u r x y. (played_nothing u r (good_analysed v _ x) (subst (λ (v : World). Does m (redo_plan m v) v r u) (found_nothing v _ x).1 y)).0;
    served = λ v u z r x y s kept.
        let p = played_nothing u _ (good_analysed v _ x) (subst (λ (v : World). Does m (redo_plan m v) v (Ok (0, 0)) u) (found_nothing v _ x).1 y) in
        undone_nothing z r p.2 (subst (λ (u : World). Does m (undo_plan m u) u r z) p.1 s) kept;
  }
