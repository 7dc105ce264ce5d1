-- Undo in the words of its plan: what each of its parts comes to on the devices, and the whole. Assumes nothing.
use Rattle.std.proofs.Common.{◌≡◌, ℕ, suc, ◌<◌, ◌≤◌, ◌-◌, Bool, true, false, cond, eqb, ltb, List, [], ◌∷◌, length, Some, None, Ok, Err, Option, Result, set, sym, refl, ap, subst, ◌∙◌, arith}
use Rattle.std.proofs.lemmas.Bool.{lt-ltb, le-ltb, ltb-true, ltb-false, eq-eqb, ne_eqb, cond-true, cond-false}
use Rattle.std.proofs.lemmas.Option.{none-some}
use Rattle.format.specs.declared.page.Page.{Page}
use Rattle.format.specs.declared.slot.Slot.TheVariants.{Record, Job}
use Rattle.format.specs.declared.slot.PageRecord.{PageRecord}
use Rattle.format.specs.declared.slot.JobEvent.TheVariants.{End}
use Rattle.format.specs.Changes.{Meaning}
use Rattle.rules.specs.declared.refusal.Refusal.{Refusal}
use Rattle.rules.specs.declared.refusal.Refusal.TheVariants.{LogFull, LogUnreadable}
use Rattle.rules.specs.declared.table.JobEntry.{JobEntry}
use Rattle.rules.specs.Plans.{append, force, Did, Failed, Performed, done, failed, Does, performed}
use Rattle.rules.specs.Playing.{play}
use Rattle.rules.specs.Reading.{at}
use Rattle.rules.specs.Restart.{Undoing, Undone, latest, whole, goes_on, gives_up, has_slot, ended, then_undo, end_job, end_idle, compensated, undo_change, undo_latest, undo_all, undone, undone_plan, undo_in, undo_plan}
use Rattle.rules.specs.Service.{copy_of, change_of, compensation, taken_back}
use Rattle.rules.specs.State.{Devices, World, Working, out, redone, serving, is_redone, log_length}
use Rattle.rules.specs.Tables.{Jobs, Dirty, with_next, without_job}
use Rattle.promises.proofs.Decoded.{whole_length}
use Rattle.calls.specs.declared.state.Stage.{Stage}
use Rattle.calls.specs.declared.state.Stage.TheVariants.{Redone}
use Rattle.calls.specs.Memories.{memory_of}
use Rattle.calls.specs.Outcomes.{Powered}
use Rattle.calls.specs.Readers.{read_up_to}
use Rattle.calls.specs.TakingBack.{all, BreaksOff, stops, fails, UndoBreaksOff, WorkDone, UndoingDone, OutcomeOfUndo, end_if_done, turn, EndsJobs, TakesTurn}
use Rattle.calls.proofs.Appending.{nothing_done, broke_off, gave_up, appended_powered, appended_then, kept_by, slot_done, change_done, same_change}
use Rattle.calls.proofs.Checks.{told, told_yes, told_no, told_why}
use Rattle.calls.proofs.Performing.{let_in}
use Rattle.calls.proofs.Serving.{working_of}
use Rattle.calls.proofs.Stages.{opened}
use Rattle.calls.proofs.UndoPlans.{grows_if, grows_all, latest_is, then_goes, breaks_then, breaks_idle}

module _ {C : Type 0} (m : Meaning C) where
  pub broken_off : {A : Type 0} {d e : Devices} (t : Undone C) {r : Result A Refusal} (jobs : Jobs) (copies : List Page) (c : ℕ) {why : Refusal} → r ≡ Err why
      → UndoBreaksOff m d t why e → OutcomeOfUndo m d t r e jobs copies c
  broken_off {d = d} {e = e} t jobs copies c is b = subst (λ r. OutcomeOfUndo m d t r e jobs copies c) (sym is) b

  -- Question 14

  pub is_full : (e : Devices) (why : Refusal) → Err why ≡ told (ltb (log_length e) e.log.capacity) LogFull → (e.log.capacity ≤ log_length e) × (why ≡ LogFull)
  is_full e why q = (ltb-false (log_length e) e.log.capacity (told_no (ltb (log_length e) e.log.capacity) LogFull q), told_why (ltb (log_length e) e.log.capacity) q)

  pub is_free : (e : Devices) → Ok tt ≡ told (ltb (log_length e) e.log.capacity) LogFull → log_length e < e.log.capacity
  is_free e q = ltb-true (log_length e) e.log.capacity (told_yes (ltb (log_length e) e.log.capacity) LogFull q)

  -- One job

  module _ {d e : Devices} {u : Undoing C} {jobs : Jobs} {copies : List Page} {c : ℕ} (un : UndoingDone m d u e jobs copies c) where
    slot_left : has_slot m d.log.capacity u ≡ ltb (log_length e) e.log.capacity
    slot_left = let same = (kept_by m un.work_done.appended).capacity_same in rw (un.work_done.long, same) refl

    left : log_length e < e.log.capacity → has_slot m d.log.capacity u ≡ true
    left lt = slot_left ∙ lt-ltb (log_length e) e.log.capacity lt

    none_left : e.log.capacity ≤ log_length e → has_slot m d.log.capacity u ≡ false
    none_left le = slot_left ∙ le-ltb (log_length e) e.log.capacity le

    -- an end, where the next is 0

    module _ (next j : ℕ) where
      pub not_done : (next ≡ 0 → ⊥) → OutcomeOfUndo m d (end_if_done m d.log.capacity next j u) (Ok (tt {0})) e jobs copies c
      not_done other = let z : OutcomeOfUndo m d (goes_on m u) (Ok (tt {0})) e jobs copies c = (refl, un) in subst (λ t. OutcomeOfUndo m d t (Ok (tt {0})) e jobs copies c) (sym (cond-false (eqb next 0) (end_job m d.log.capacity j u) (goes_on m u) (ne_eqb next 0 other))) z

      module _ (is : next ≡ 0) where
        full : e.log.capacity ≤ log_length e → end_if_done m d.log.capacity next j u ≡ gives_up m LogFull u
        full le = cond-true (eqb next 0) (end_job m d.log.capacity j u) (goes_on m u) (eq-eqb next 0 is)
            ∙ cond-false (has_slot m d.log.capacity u) (goes_on m (ended m j u)) (gives_up m LogFull u) (none_left le)

        ends : log_length e < e.log.capacity → end_if_done m d.log.capacity next j u ≡ goes_on m (ended m j u)
        ends lt = cond-true (eqb next 0) (end_job m d.log.capacity j u) (goes_on m u) (eq-eqb next 0 is)
            ∙ cond-true (has_slot m d.log.capacity u) (goes_on m (ended m j u)) (gives_up m LogFull u) (left lt)

        pub end_full : e.log.capacity ≤ log_length e → UndoBreaksOff m d (end_if_done m d.log.capacity next j u) LogFull e
        end_full le = subst (λ t. UndoBreaksOff m d t LogFull e) (sym (full le)) (stops refl un.work_done.appended)

        pub end_fails : {f : Devices} {why : Refusal} → log_length e < e.log.capacity → Failed m (append (Job End j)) e why f
            → UndoBreaksOff m d (end_if_done m d.log.capacity next j u) why f
        end_fails {f = f} {why = why} lt x = subst (λ t. UndoBreaksOff m d t why f) (sym (ends lt)) (fails all un.work_done.appended x)

        pub end_done : {f : Devices} {after : Jobs} → log_length e < e.log.capacity → Did m (append (Job End j)) e f → after ≡ without_job j jobs
            → OutcomeOfUndo m d (end_if_done m d.log.capacity next j u) (Ok (tt {0})) f after copies c
        end_done {f = f} {after = after} lt x js = let z : OutcomeOfUndo m d (goes_on m (ended m j u)) (Ok (tt {0})) f after copies c = (
          refl,
          record {
            work_done = st;
            jobs_are = ap (without_job j) un.jobs_are ∙ sym js;
            counted = un.counted;
            all_counted = let a = st.long in let b = un.work_done.long in let n = un.all_counted in omega arith;
          },
        ) in
            subst (λ t. OutcomeOfUndo m d t (Ok (tt {0})) f after copies c) (sym (ends lt)) z
          where
            st : WorkDone m (whole m d) d (ended m j u).work f copies
            st = subst (λ cs. WorkDone m (whole m d) d (ended m j u).work f cs) un.work_done.copies_are
                (slot_done m (Job End j) u.work.copies (let k = whole_length m d in omega arith) (λ j. refl) un.work_done x)

    -- a turn, for the entry of a job

    module _ (x : JobEntry) where
      pub turn_full : e.log.capacity ≤ log_length e → UndoBreaksOff m d (turn m d.log.capacity x u) LogFull e
      turn_full le = subst (λ t. UndoBreaksOff m d t LogFull e)
          (sym (cond-false (has_slot m d.log.capacity u) (undo_change m d.log.capacity x u (change_of x.job (at u.work.log x.next))) (gives_up m LogFull u) (none_left le)))
          (stops refl un.work_done.appended)

      module _ (lt : log_length e < e.log.capacity) where
        turn_is : (o : Option (PageRecord C)) → o ≡ change_of x.job (at (read_up_to m e 1 (log_length d)) x.next) → turn m d.log.capacity x u ≡ undo_change m d.log.capacity x u o
        turn_is o q = cond-true (has_slot m d.log.capacity u) (undo_change m d.log.capacity x u (change_of x.job (at u.work.log x.next))) (gives_up m LogFull u) (left lt)
            ∙ ap (undo_change m d.log.capacity x u) (sym (q ∙ same_change m 1 x.job x.next un.work_done))

        pub turn_none : None ≡ change_of x.job (at (read_up_to m e 1 (log_length d)) x.next)
            → UndoBreaksOff m d (turn m d.log.capacity x u) LogUnreadable e
        turn_none q = subst (λ t. UndoBreaksOff m d t LogUnreadable e) (sym (turn_is None q)) (stops refl un.work_done.appended)

        module _ (r : PageRecord C) (found : Some r ≡ change_of x.job (at (read_up_to m e 1 (log_length d)) x.next)) where
          pub turn_fails : {f : Devices} {why : Refusal} → Failed m (append (Record (compensation r (copy_of copies r.page)))) e why f
              → UndoBreaksOff m d (turn m d.log.capacity x u) why f
          turn_fails {f = f} {why = why} y = subst (λ t. UndoBreaksOff m d t why f) (sym (turn_is (Some r) found))
              (fails (grows_if m d.log.capacity r.link x.job (compensated m x r u)) un.work_done.appended
              (subst (λ cs. Failed m (append (Record (compensation r (copy_of cs r.page)))) e why f) (sym un.work_done.copies_are) y))

          pub turn_back : {f : Devices} (a : Result (Unit {0}) Refusal) (g : Devices) {between : Jobs} (after : Jobs) {now : List Page}
              → Did m (append (Record (compensation r (copy_of copies r.page)))) e f → between ≡ with_next x.job r.link jobs
              → now ≡ set copies r.page (play m (compensation r (copy_of copies r.page)) (copy_of copies r.page))
              → ((v : Undoing C) → UndoingDone m d v f between now (suc c) → OutcomeOfUndo m d (end_if_done m d.log.capacity r.link x.job v) a g after now (suc c))
              → OutcomeOfUndo m d (turn m d.log.capacity x u) a g after now (suc c)
          turn_back {f = f} a g {between = between} after {now = now} y js cs goes =
              subst (λ t. OutcomeOfUndo m d t a g after now (suc c)) (sym (turn_is (Some r) found)) (goes (compensated m x r u) (record {
                work_done = st;
                jobs_are = ap (with_next x.job r.link) un.jobs_are ∙ sym js;
                counted = ap suc un.counted;
                all_counted = let a = st.long in let b = un.work_done.long in let n = un.all_counted in omega arith;
              }))
            where
              st : WorkDone m (whole m d) d (taken_back m r u.work) f now
              st = subst (λ cs. WorkDone m (whole m d) d (taken_back m r u.work) f cs) (sym cs)
                  (change_done m r (let k = whole_length m d in omega arith) un.work_done y)

  -- The jobs that have nothing to take back

  pub still_powered : {d e : Devices} {u : Undoing C} {jobs : Jobs} {copies : List Page} {c : ℕ} → UndoingDone m d u e jobs copies c → d.log.powered ≡ true → e.log.powered ≡ true
  still_powered un p = appended_powered m un.work_done.appended p

  abbrev pub at_first : Devices → Jobs → List Page → Undoing C
  at_first d jobs copies = record { work = record { log = whole m d; copies = copies; appended = [] }; jobs = jobs; compensations = 0; ends = 0 }

  pub nothing_yet : (d : Devices) (jobs : Jobs) (copies : List Page) → UndoingDone m d (at_first d jobs copies) d jobs copies 0
  nothing_yet d jobs copies = record {
    work_done = nothing_done m (whole m d) d copies (whole_length m d);
    jobs_are = refl;
    counted = refl;
    all_counted = omega arith;
  }

  -- what does not stop goes on from its state
  on_it_goes : (t : Undone C) → t.why ≡ None → t ≡ goes_on m t.state
  on_it_goes t e = ap (λ why. record { state = t.state; why = why }) e

  -- those of ys are left of xs
  pub record Idled (d : Devices) (u : Undoing C) (xs ys : Jobs) (e : Devices) (jobs : Jobs) (copies : List Page) (c : ℕ) : Type 0 where
    pub state : Undoing C
    pub undid : UndoingDone m d state e jobs copies c
    pub rest : end_idle m d.log.capacity xs (goes_on m u) ≡ end_idle m d.log.capacity ys (goes_on m state)

  module _ {d e : Devices} {u : Undoing C} {jobs : Jobs} {copies : List Page} {c : ℕ} (xs : Jobs) where
    pub idle_begins : UndoingDone m d u e jobs copies c → Idled d u xs xs e jobs copies c
    idle_begins un = record { state = u; undid = un; rest = refl }

    pub idle_ends : Idled d u xs [] e jobs copies c → OutcomeOfUndo m d (end_idle m d.log.capacity xs (goes_on m u)) (Ok (tt {0})) e jobs copies c
    idle_ends i = let z : OutcomeOfUndo m d (goes_on m i.state) (Ok (tt {0})) e jobs copies c = (refl, i.undid) in
        subst (λ t. OutcomeOfUndo m d t (Ok (tt {0})) e jobs copies c) (sym i.rest) z

    module _ (x : JobEntry) (ys : Jobs) (i : Idled d u xs (x ∷ ys) e jobs copies c) {f : Devices} (after : Jobs) where
      pub one_idle : EndsJobs m (λ capacity u. end_if_done m capacity x.next x.job u) e jobs (Ok (tt {0})) f after → Idled d u xs ys f after copies c
      one_idle did = let k = did d i.state copies c i.undid in record {
        state = (end_if_done m d.log.capacity x.next x.job i.state).state;
        undid = k.1;
        rest = i.rest ∙ ap (end_idle m d.log.capacity ys) (on_it_goes (end_if_done m d.log.capacity x.next x.job i.state) k.0);
      }

      pub idle_breaks : {why : Refusal} → EndsJobs m (λ capacity u. end_if_done m capacity x.next x.job u) e jobs (Err why) f after
          → let t = end_idle m d.log.capacity xs (goes_on m u) in UndoBreaksOff m d t why f
      idle_breaks {why = why} did = subst (λ t. UndoBreaksOff m d t why f) (sym i.rest)
          (breaks_idle m d.log.capacity ys (end_if_done m d.log.capacity x.next x.job i.state) (did d i.state copies c i.undid))

  -- All of undo but the force

  module _ (x : Working) (d : Devices) where
    abbrev later : ℕ → Undoing C → Undone C
    later c = undo_all m d.log.capacity (d.log.capacity - c)

    -- the rest of it, after c turns
    pub record Left (e : Devices) (jobs : Jobs) (copies : List Page) (c : ℕ) : Type 0 where
      pub state : Undoing C
      pub undid : UndoingDone m d state e jobs copies c
      pub few : c ≤ d.log.capacity
      pub rest : undone m d x ≡ undo_all m d.log.capacity (suc d.log.capacity - c) state

    module _ {f : Devices} (after : Jobs) where
      pub turns_begin : EndsJobs m (λ capacity u. end_idle m capacity x.jobs (goes_on m u)) d x.jobs (Ok (tt {0})) f after → Left f after x.copies 0
      turns_begin did = let k = did d (at_first d x.jobs x.copies) x.copies 0 (nothing_yet d x.jobs x.copies) in
          let cap = d.log.capacity in
          let all_of_it : suc cap ≡ suc cap - 0 = omega arith in
          record {
            state = (end_idle m cap x.jobs (goes_on m (at_first d x.jobs x.copies))).state;
            undid = k.1;
            few = omega arith;
            rest = then_goes m cap (undo_all m cap (suc cap)) (end_idle m cap x.jobs (goes_on m (at_first d x.jobs x.copies))) k.0
                ∙ ap (λ fuel. undo_all m cap fuel (end_idle m cap x.jobs (goes_on m (at_first d x.jobs x.copies))).state) all_of_it;
          }

      pub breaks_first : {why : Refusal} → EndsJobs m (λ capacity u. end_idle m capacity x.jobs (goes_on m u)) d x.jobs (Err why) f after
          → UndoBreaksOff m d (undone m d x) why f
      breaks_first did = let cap = d.log.capacity in
          breaks_then m cap (undo_all m cap (suc cap)) (end_idle m cap x.jobs (goes_on m (at_first d x.jobs x.copies))) (grows_all m cap (suc cap))
          (did d (at_first d x.jobs x.copies) x.copies 0 (nothing_yet d x.jobs x.copies))

    module _ {e : Devices} {jobs : Jobs} {copies : List Page} {c : ℕ} (l : Left e jobs copies c) where
      at_turn : undone m d x ≡ undo_latest m d.log.capacity (later c) l.state (latest jobs)
      at_turn =
          let few = l.few in
          let one : suc d.log.capacity - c ≡ suc (d.log.capacity - c) = omega arith in
          l.rest ∙ (ap (λ fuel. undo_all m d.log.capacity fuel l.state) one
          ∙ ap (λ t. undo_latest m d.log.capacity (later c) l.state (latest t)) l.undid.jobs_are)

      pub turns_end : latest jobs ≡ None → {n : ℕ} → n ≡ c → OutcomeOfUndo m d (undone m d x) (Ok n) e jobs copies c
      turns_end none {n = n} is = let z : OutcomeOfUndo m d (goes_on m l.state) (Ok n) e jobs copies c = (refl, l.undid) in
          subst (λ t. OutcomeOfUndo m d t (Ok n) e jobs copies c)
          (sym (at_turn ∙ ap (undo_latest m d.log.capacity (later c) l.state) none)) z

      module _ (y : JobEntry) (is : latest jobs ≡ Some y) where
        at_its_turn : undone m d x ≡ then_undo m (later c) (turn m d.log.capacity y l.state)
        at_its_turn = at_turn ∙ (ap (undo_latest m d.log.capacity (later c) l.state) is
            ∙ latest_is m d.log.capacity (later c) l.state y)

        had_slot : (turn m d.log.capacity y l.state).why ≡ None → c < d.log.capacity
        had_slot = go (has_slot m d.log.capacity l.state) refl
          where
            go : (b : Bool) → has_slot m d.log.capacity l.state ≡ b
                → (cond b (undo_change m d.log.capacity y l.state (change_of y.job (at l.state.work.log y.next))) (gives_up m LogFull l.state)).why ≡ None → c < d.log.capacity
            go true e q = let lt = ltb-true (length l.state.work.log) d.log.capacity e in let long = l.undid.work_done.long in let n = l.undid.all_counted in omega arith
            go false e q = absurd (none-some LogFull (sym q))

        module _ (last : ℕ) (same : last ≡ log_length d) {f : Devices} (after : Jobs) (now : List Page) where
          pub turn_breaks : {why : Refusal} → TakesTurn m y last e jobs copies (Err why) f after now → UndoBreaksOff m d (undone m d x) why f
          turn_breaks {why = why} did = subst (λ t. UndoBreaksOff m d t why f) (sym at_its_turn)
              (breaks_then m d.log.capacity (later c) (turn m d.log.capacity y l.state) (grows_all m d.log.capacity (d.log.capacity - c))
              (did d l.state c same l.undid))

          pub turn_done : TakesTurn m y last e jobs copies (Ok (tt {0})) f after now → Left f after now (suc c)
          turn_done did =
              let k = did d l.state c same l.undid in
              let lt = had_slot k.0 in
              let cap = d.log.capacity in
              let less : cap - c ≡ suc cap - suc c = omega arith in
              record {
                state = (turn m cap y l.state).state;
                undid = k.1;
                few = omega arith;
                rest = at_its_turn ∙ (then_goes m cap (undo_all m cap (cap - c)) (turn m cap y l.state) k.0 ∙ ap (λ fuel. undo_all m cap fuel (turn m cap y l.state).state) less);
              }

-- The plan

module _ {C : Type 0} (m : Meaning C) (d : Devices) (x : Working) where
  pub does_undo : (stage : Stage) (dirty : Dirty) {u w v : World} {r : Result (ℕ × ℕ) Refusal} → record { devices = d; memory = memory_of stage x.jobs dirty x.copies x.first } ≡ u → u ≡ w
      → is_redone w.memory ≡ true → Powered w.devices → Does m (undo_in m d x) (record { devices = d; memory = redone x }) r v → Does m (undo_plan m w) w r v
  does_undo stage dirty {v = v} {r = r} view same at_stage power y = subst (λ w. Powered w.devices → Does m (undo_plan m w) w r v)
      (sym (opened d stage x.jobs dirty x.copies x.first view same Redone at_stage)) (λ power. let_in m refl power y) power

  pub undo_breaks : {cs : List Page} → cs ≡ x.copies → {e : Devices} {why : Refusal} {r : Result (ℕ × ℕ) Refusal} → r ≡ Err why → UndoBreaksOff m d (undone m d (working_of cs x.jobs x.first)) why e
      → Does m (undo_in m d x) (record { devices = d; memory = redone x }) r (record { devices = e; memory = out })
  undo_breaks same {e = e} {why = why} is b = subst (λ r. Does m (undo_in m d x) (record { devices = d; memory = redone x }) r (record { devices = e; memory = out })) (sym is)
      (go (undone m d x).state (undone m d x).why (subst (λ cs. UndoBreaksOff m d (undone m d (working_of cs x.jobs x.first)) why e) same b))
    where
      go : (u : Undoing C) (stop : Option Refusal) → BreaksOff m u.work.appended stop d why e → Does m (undone_plan m x u stop) (record { devices = d; memory = redone x }) (Err why) (record { devices = e; memory = out })
      go u None b = performed (broke_off m (force ∷ []) b)
      go u (Some z) b = performed (gave_up m z b)

  module _ {cs : List Page} (same : cs ≡ x.copies) {e : Devices} {jobs : Jobs} {copies : List Page} {c : ℕ}
      (did : OutcomeOfUndo m d (undone m d (working_of cs x.jobs x.first)) (Ok c) e jobs copies c) where
    came : OutcomeOfUndo m d (undone m d x) (Ok c) e jobs copies c
    came = subst (λ cs. OutcomeOfUndo m d (undone m d (working_of cs x.jobs x.first)) (Ok c) e jobs copies c) same did

    pub undo_unforced : {f : Devices} {why : Refusal} {r : Result (ℕ × ℕ) Refusal} → r ≡ Err why → Failed m force e why f
        → Does m (undo_in m d x) (record { devices = d; memory = redone x }) r (record { devices = f; memory = out })
    undo_unforced {f = f} {why = why} is y = subst (λ r. Does m (undo_in m d x) (record { devices = d; memory = redone x }) r (record { devices = f; memory = out })) (sym is)
        (subst (λ stop. Does m (undone_plan m x (undone m d x).state stop) (record { devices = d; memory = redone x }) (Err why) (record { devices = f; memory = out })) (sym came.0)
        (performed (appended_then m came.1.work_done.appended (failed y))))

    pub undo_ends : {f : Devices} (a b : ℕ) (now : List Page) → a ≡ log_length e → b ≡ log_length d → now ≡ copies → Did m force e f
        → Does m (undo_in m d x) (record { devices = d; memory = redone x }) (Ok (c, a - b - c)) (record { devices = f; memory = serving (record { copies = now; jobs = jobs; first = x.first }) })
    undo_ends {f = f} a b now after before left y =
        let un = came.1 in
        let u = (undone m d x).state in
        let ends : u.ends ≡ a - b - c = let n = un.all_counted in omega arith in
        subst (λ stop. Does m (undone_plan m x u stop) (record { devices = d; memory = redone x }) (Ok (c, a - b - c)) (record { devices = f; memory = serving (record { copies = now; jobs = jobs; first = x.first }) })) (sym came.0)
        (performed (appended_then m un.work_done.appended (Performed.next y (ended_so u.compensations c u.ends (a - b - c) u.work.copies now u.jobs jobs un.counted ends (un.work_done.copies_are ∙ sym left) un.jobs_are))))
      where
        ended_so : (n c k l : ℕ) (cs now : List Page) (js jobs : Jobs) → n ≡ c → k ≡ l → cs ≡ now → js ≡ jobs
            → Performed m {A = ℕ × ℕ} (Ok (n, k)) (serving (record { copies = cs; jobs = js; first = x.first })) [] f (Ok (c, l)) (record { devices = f; memory = serving (record { copies = now; jobs = jobs; first = x.first }) })
        ended_so n c k l cs now js jobs p q r s = rw (p, q, r, s) done
