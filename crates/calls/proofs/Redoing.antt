-- Redo in the words of its plan, and what its loops come to. Assumes nothing.
use mir.Val.{bool_byte}
use Rattle.std.proofs.Common.{◌≡◌, ℕ, suc, pred, ◌<◌, ◌≤◌, ◌==◌, ◌+◌, min, Bool, true, false, cond, ◌&&◌, leb, ltb, List, [], ◌∷◌, length, Ok, Err, Option, Result, sym, refl, ap, subst, ◌∙◌, arith}
use Rattle.std.specs.List.{list_all}
use Rattle.std.specs.Bool.{then_some}
use Rattle.std.specs.Option.{unwrap_or}
use Rattle.std.proofs.lemmas.Bool.{lt-ltb}
use Rattle.format.specs.declared.page.Page.{Page}
use Rattle.format.specs.declared.slot.Slot.{Slot}
use Rattle.format.specs.Changes.{Meaning}
use Rattle.rules.specs.declared.refusal.Refusal.{Refusal}
use Rattle.rules.specs.Reading.{scan}
use Rattle.rules.specs.declared.refusal.Refusal.TheVariants.{StoreAhead}
use Rattle.rules.specs.Plans.{Does, stopped, passed, performed, done}
use Rattle.rules.specs.Restart.{Replay, whole, none_ahead, replay, replayed, redone_plan, stored_pages, redo_in, redo_plan}
use Rattle.rules.specs.State.{Devices, Found, out, analysed, redone, World, is_analysed, log_length}
use Rattle.rules.specs.Tables.{Jobs, Dirty, least_start}
use Rattle.calls.specs.declared.state.Stage.{Stage}
use Rattle.calls.specs.declared.state.Stage.TheVariants.{Analysed}
use Rattle.calls.specs.Memories.{memory_of}
use Rattle.calls.specs.Outcomes.{Powered}
use Rattle.calls.specs.Passes.{one_replayed}
use Rattle.calls.specs.Readers.{slot_of}
use Rattle.calls.proofs.Checks.{told, told_yes, told_no, told_why}
use Rattle.calls.proofs.Performing.{let_in}
use Rattle.calls.proofs.Scans.{so_far, step, nothing_yet, stops, so_all}
use Rattle.calls.proofs.Stages.{opened}

-- question 16 as a test of every page
pub none_ahead_is : (n : ℕ) (cs : List Page) → none_ahead n cs ≡ list_all (λ c. leb c.lrc n) cs
none_ahead_is n [] = refl
none_ahead_is n (c ∷ cs) = ap (λ b. leb c.lrc n && b) (none_ahead_is n cs)

-- What the pass has come to after n slots

-- each slot counts for one at most
pub one_at_most : (b : Bool) (more : ℕ) → more ≡ bool_byte b → more ≤ 1
one_at_most true more e = omega arith
one_at_most false more e = omega arith

module _ {C : Type 0} (m : Meaning C) (d : Devices) (dirty : Dirty) (from : ℕ) (copies : List Page) where
  abbrev begun : Replay
  begun = record { copies = copies; count = 0 }

  abbrev pub replay_to : ℕ → Result Replay Refusal
  replay_to n = so_far from (replay m dirty) begun m d n

  abbrev pub replay_whole : Result Replay Refusal
  replay_whole = scan from (replay m dirty) begun (whole m d)

  pub none_replayed : (n : ℕ) → n < from → replay_to n ≡ Ok begun
  none_replayed = nothing_yet from (replay m dirty) begun m d

  -- slot n, as it was read, after what came before it
  module _ (n : ℕ) {x s : Option (Slot C)} {now : Replay} (one : 0 < n) (le : from ≤ n) (inside : n ≤ log_length d) (so : replay_to (pred n) ≡ Ok now)
      (read : x ≡ slot_of m d n) (is : x ≡ s) where
    slot_replayed : replay_to n ≡ replay m dirty n s now
    slot_replayed = step from (replay m dirty) begun m d n one le inside so ∙ ap (λ s. replay m dirty n s now) (sym read ∙ is)

    pub replay_stops : {why : Refusal} → replay m dirty n s now ≡ Err why → replay_whole ≡ Err why
    replay_stops {why = why} refused = stops from (replay m dirty) begun m d n why inside (omega arith) (slot_replayed ∙ refused)

    pub replay_more : (b : Bool) (after : List Page) (more : ℕ) → more ≡ bool_byte b → one_replayed now.count (Ok b) after ≡ replay m dirty n s now
        → replay_to n ≡ Ok (record { copies = after; count = now.count + more })
    replay_more b after more one e = slot_replayed ∙ (sym e ∙ ap (λ k. Ok (record { copies = after; count = k })) (counted b one))
      where
        counted : (b : Bool) → more ≡ bool_byte b → cond b (suc now.count) now.count ≡ now.count + more
        counted true e = omega arith
        counted false e = omega arith

  pub replay_done : (n : ℕ) → log_length d ≤ n → replay_to n ≡ replay_whole
  replay_done n le = so_all from (replay m dirty) begun m d n le

-- The plan

-- the smallest redo start as the table gives it
pub start_is : (xs : Dirty) (o : Option ℕ) → o ≡ then_some (ltb 0 (length xs)) (least_start xs) → unwrap_or o 0 ≡ least_start xs
start_is [] o e = rw e refl
start_is (x ∷ xs) o e = rw (e, lt-ltb 0 (length (x ∷ xs)) (omega arith)) refl

abbrev pub found : Jobs → Dirty → ℕ → Found
found jobs dirty first = record { jobs = jobs; dirty = dirty; first = first }

module _ {C : Type 0} (m : Meaning C) (d : Devices) (stage : Stage) (jobs : Jobs) (dirty : Dirty) (copies : List Page) (first : ℕ) where
  -- after the first questions, which left u, and that is w
  redoes : {u w v : World} {r : Result (ℕ × ℕ) Refusal} → record { devices = d; memory = memory_of stage jobs dirty copies first } ≡ u → u ≡ w
      → is_analysed w.memory ≡ true → Powered w.devices
      → Does m (redo_in m d (found jobs dirty first)) (record { devices = d; memory = analysed (found jobs dirty first) }) r v → Does m (redo_plan m w) w r v
  redoes {v = v} {r = r} is same now power x =
      subst (λ w. Powered w.devices → Does m (redo_plan m w) w r v) (sym (opened d stage jobs dirty copies first is same Analysed now)) (λ power. let_in m refl power x) power

  -- then the pages are read, and asked for their LRCs
  module _ {u w : World} {n : ℕ} {read : List Page} {b : Bool} (is : record { devices = d; memory = memory_of stage jobs dirty copies first } ≡ u)
      (same : u ≡ w) (now : is_analysed w.memory ≡ true) (power : Powered w.devices) (last : n ≡ log_length d) (pages : read ≡ stored_pages m d) (ask : b ≡ none_ahead n read) where
    asked_is : b ≡ none_ahead (log_length d) (stored_pages m d)
    asked_is = ask ∙ (ap (λ n. none_ahead n read) last ∙ ap (none_ahead (log_length d)) pages)

    pub store_ahead : {r : Result (ℕ × ℕ) Refusal} {why : Refusal} → Err why ≡ told b StoreAhead → r ≡ Err why
        → Does m (redo_plan m w) w r (record { devices = d; memory = out })
    store_ahead e says = rw (says, told_why b e) (redoes is same now power (stopped (sym asked_is ∙ told_no b StoreAhead e)))

    -- none is ahead of the log: the records are played on them
    module _ {cs : List Page} (yes : Ok tt ≡ told b StoreAhead) (stored : cs ≡ stored_pages m d) where
      not_ahead : none_ahead (log_length d) (stored_pages m d) ≡ true
      not_ahead = sym asked_is ∙ told_yes b StoreAhead yes

      pub replay_refused : {r : Result (ℕ × ℕ) Refusal} {why : Refusal} → Err why ≡ replayed m d dirty cs → r ≡ Err why
          → Does m (redo_plan m w) w r (record { devices = d; memory = out })
      replay_refused {r = r} {why = why} e says = rw says (redoes is same now power (passed not_ahead
          (subst (λ o. Does m (redone_plan m (found jobs dirty first) (least_start dirty) o) (record { devices = d; memory = analysed (found jobs dirty first) }) (Err why) (record { devices = d; memory = out }))
          (e ∙ ap (replayed m d dirty) stored) (performed done))))

      pub replay_ended : {count from after_first : ℕ} {after left : List Page} → Ok (record { copies = after; count = count }) ≡ replayed m d dirty cs → from ≡ least_start dirty
          → after_first ≡ cond (from == 0) first (min first from) → left ≡ after
          → Does m (redo_plan m w) w (Ok (from, count)) (record { devices = d; memory = redone (record { copies = left; jobs = jobs; first = after_first }) })
      replay_ended {count = count} {after = after} e start whole kept = rw (whole, start, kept) (redoes is same now power (passed not_ahead
          (subst (λ o. Does m (redone_plan m (found jobs dirty first) (least_start dirty) o) (record { devices = d; memory = analysed (found jobs dirty first) }) (Ok (least_start dirty, count))
          (record { devices = d; memory = redone (record { copies = after; jobs = jobs; first = cond (least_start dirty == 0) first (min first (least_start dirty)) }) }))
          (e ∙ ap (replayed m d dirty) stored) (performed done))))
