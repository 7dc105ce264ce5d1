-- The three passes in a row from a good state, and why it does not matter which true checkpoint they go by.
use Rattle.std.proofs.Common.{◌≡◌, ℕ, ◌≤◌, List, [], ◌∷◌, ◌++◌, map, length, Some, Ok, sym, refl, ap, ◌∙◌, subst, ap₂, inl, inr, ⊎_elim, arith}
use Rattle.std.proofs.lemmas.List.{ext_get_or}
use Rattle.std.proofs.lemmas.Bool.{cases_lt}
use Rattle.format.specs.declared.page.Page.{Page}
use Rattle.format.specs.declared.slot.Slot.{Slot}
use Rattle.format.specs.declared.slot.Slot.TheVariants.{Checkpoint}
use Rattle.format.specs.declared.slot.CheckpointPart.TheVariants.{Complete}
use Rattle.format.specs.Changes.{Meaning, Lawful}
use Rattle.format.specs.Pages.{blank_page}
use Rattle.recovery_log.specs.Log.{Log}
use Rattle.device.specs.PageStores.{PageModel}
use Rattle.rules.specs.Ledger.{Ledger, settled}
use Rattle.rules.specs.Plans.{Does, powered_on}
use Rattle.promises.specs.Promises.{Restarted, outcome_of, outcome_by, restart_by, Agrees, Unchanged}
use Rattle.rules.specs.Reading.{at}
use Rattle.rules.specs.Restart.{whole, undone, redo_plan, undo_plan}
use Rattle.rules.specs.State.{Devices, Found, Working, Memory, analysed, redone, World, working}
use Rattle.rules.specs.Tables.{Jobs}
use Rattle.promises.proofs.Analysis.{EndsAt, AnalysisTrue, analysis_done}
use Rattle.promises.proofs.Cuts.{up_to_all}
use Rattle.promises.proofs.Decoded.{at_above, whole_length, whole_powered_on}
use Rattle.promises.proofs.Finishing.{Undoes, undo_next, undo_comes}
use Rattle.promises.proofs.Legal.{whole_page, open_jobs}
use Rattle.promises.proofs.Invariants.{Durable, Kept, Analysed, Redone, Stage, Good}
use Rattle.promises.proofs.Powering.{powered_on_power, kept_powered_on, settles}
use Rattle.promises.proofs.Redo.{redo_replays, redone_with, redo_done}
use Rattle.promises.proofs.Restarting.{analysis_comes, redo_next}
use Rattle.promises.proofs.Safety.{onto}
use Rattle.promises.proofs.Undoing.{undo_true, undo_idle}

module _ {C : Type 0} (m : Meaning C) where
  -- after redo the server works with the same whatever tables analysis found
  copies_same : (d : Devices) (x y : Working) → Redone m d x → Redone m d y → x.copies ≡ y.copies
  copies_same d x y a b = ext_get_or blank_page x.copies y.copies (a.many ∙ sym b.many) (λ p _. a.copies p ∙ sym (b.copies p))

  pub undone_same : (d : Devices) (x y : Working) → Redone m d x → Redone m d y → undone m d x ≡ undone m d y
  undone_same d x y a b = ap₂ (λ (copies : List Page) (jobs : Jobs). undone m d (record { copies = copies; jobs = jobs; first = 1 })) (copies_same d x y a b) (a.jobs ∙ sym b.jobs)

  -- where a restart by a true checkpoint comes to
  pub record Comes (d : Devices) (e : ℕ) : Type 0 where
    pub state : Working
    pub redone' : Redone m d state
    pub comes : restart_by m d e ≡ outcome_of (undone m d state)

  pub restart_comes : (d : Devices) (e : ℕ) → Durable m d → AnalysisTrue m d e → Comes d e
  restart_comes d e h t =
      let x = redo_replays m d t.found h t.analysed in
      record {
        state = redone_with m t.found x.res;
        redone' = redo_done m d t.found x.res h t.analysed x.replays;
        comes = rw (t.finds, x.replays) refl;
      }

  -- slots on top of a log
  pub onto_map : (ss : List (Slot C)) (L : Log C) → onto ss L ≡ map Some ss ++ L
  onto_map [] L = refl
  onto_map (s ∷ ss) L = ap (λ (K : Log C). Some s ∷ K) (onto_map ss L)

module _ {C : Type 0} (m : Meaning C) (law : Lawful m) where
  -- the passes in a row, each accepted
  pub record Restarts (h : Ledger C) (w v : World) : Type 0 where
    pub state : Working
    pub redone' : Redone m (powered_on w.devices) state
    pub answer : ℕ × ℕ
    pub undoes : Undoes m law (powered_on w.devices) state (Ok answer) v
    pub good : Good m (settled (whole m (powered_on w.devices)) h) v

  pub restarts : (h : Ledger C) (w v : World) → Good m h w → Restarted m w v → Restarts h w v
  restarts h w v g x =
      let a = analysis_comes m h w x.after_analysis (Ok x.found) g (kept_powered_on m h w.devices g.kept) x.analysed in
      redo_then a.found a.stage (subst (λ (u : World). Does m (redo_plan m u) u (Ok x.played) x.after_redo) a.leaves x.redone)
    where
      d : Devices
      d = powered_on w.devices

      k : Ledger C
      k = settled (whole m d) h

      undo_then : (s : Working) → Stage m k d (redone s) → Does m (undo_plan m (record { devices = d; memory = redone s })) (record { devices = d; memory = redone s }) (Ok x.undone) v → Restarts h w v
      undo_then s st y = undo_next m law (λ r u. r ≡ Ok x.undone → u ≡ v → Restarts h w v) k d s v (Ok x.undone) (record { kept = (settles m h w.devices g.kept).0; stage = st })
          (λ why e n mem kept f i. let c : ◌≡◌ {A = ℕ} 0 1 = cc in absurd (omega arith))
          (λ u kept stage e f. record { state = s; redone' = st.1; answer = x.undone; undoes = u; good = record { kept = kept; stage = stage } }) y refl refl

      redo_then : (f : Found) → Analysed m d f → Does m (redo_plan m (record { devices = d; memory = analysed f })) (record { devices = d; memory = analysed f }) (Ok x.played) x.after_redo
          → Restarts h w v
      redo_then f a y =
          let s = settles m h w.devices g.kept in
          let red = redo_next m k d f x.after_redo (Ok x.played) (record { kept = s.0; stage = (s.1, a) }) y in
          undo_then (redone_with m f red.res) (s.1, red.stage) (subst (λ (u : World). Does m (undo_plan m u) u (Ok x.undone) v) red.leaves x.served)

  -- From every complete checkpoint the same

  pub agrees : (h : Ledger C) (w : World) → Good m h w → Agrees m w
  agrees h w g = record {
    each = λ e b is. let c = by e (inr (b, is)) (inside e b is) in
        c.comes ∙ (ap outcome_of (undone_same m d c.state zeroth.state c.redone' zeroth.redone') ∙ sym zeroth.comes);
    outcome = record { copies = (undone m d zeroth.state).state.work.copies; appended = (undone m d zeroth.state).state.work.appended };
    from_slot_1 = zeroth.comes ∙ ap (outcome_by _ _) (undo_true m d zeroth.state dur zeroth.redone').why;
    copies = λ v x. let y = restarts h w v g x in
        ap (λ (memory : Memory). (working memory).copies) y.undoes.memory ∙ ap (λ u. u.state.work.copies) (undone_same m d y.state zeroth.state y.redone' zeroth.redone');
    appended = λ v x. let y = restarts h w v g x in
        y.undoes.log ∙ (onto_map m y.undoes.true'.slots (whole m d)
        ∙ ap (λ (ss : List (Slot C)). map Some ss ++ whole m d) (sym y.undoes.true'.appended
        ∙ ap (λ u. u.state.work.appended) (undone_same m d y.state zeroth.state y.redone' zeroth.redone')));
  }
    where
      d : Devices
      d = powered_on w.devices

      dur : Durable m d
      dur = (kept_powered_on m h w.devices g.kept).durable

      inside : (e b : ℕ) → at (whole m d) e ≡ Some (Checkpoint (Complete b)) → e ≤ length (whole m d)
      inside e b is = ⊎_elim (λ lt. let no_slot = at_above e (whole m d) lt in let z : ◌≡◌ {A = ℕ} 0 1 = cc in absurd (omega arith)) (λ le. le) (cases_lt (length (whole m d)) e)

      by : (e : ℕ) → EndsAt m d e → e ≤ length (whole m d) → Comes m d e
      by e ends le = restart_comes m d e dur (analysis_done m d e dur (powered_on_power m w.devices) ends le)

      zeroth : Comes m d 0
      zeroth = by 0 (inl refl) (omega arith)

  -- A restart right after a finished one appends nothing and reaches the same copies

  pub again : (h : Ledger C) (w v u : World) (a : ℕ × ℕ) → Good m h w → Does m (undo_plan m w) w (Ok a) v → Restarted m v u → Unchanged m v u
  again h w v u a g x y = undo_comes m law (λ r z. r ≡ Ok a → Unchanged m v u) h w.devices w.memory v (Ok a) g
      (λ e. let z : ◌≡◌ {A = ℕ} 0 1 = cc in absurd (omega arith))
      (λ why st e n mem k i. let z : ◌≡◌ {A = ℕ} 0 1 = cc in absurd (omega arith))
      (λ s st mem red un k stage i. unchanged s red un k stage) x refl
    where
      relit : Devices
      relit = powered_on v.devices

      unchanged : (s : Working) → Redone m w.devices s → Undoes m law w.devices s (Ok a) v → Kept m h v.devices → Stage m h v.devices v.memory → Unchanged m v u
      unchanged s red un k stage =
          let r = restarts h v u (record { kept = k; stage = stage }) y in
          let log : whole m relit ≡ whole m v.devices = whole_powered_on m v.devices ∙ up_to_all v.devices.log.forced (whole m v.devices) (omega (arith, whole_length m v.devices, un.all_forced)) in
          let closed : r.state.jobs ≡ [] = r.redone'.jobs ∙ (ap open_jobs (log ∙ un.log) ∙ un.true'.table) in
          let idle = undo_idle m relit r.state closed in
          let none : r.undoes.true'.slots ≡ [] = sym r.undoes.true'.appended ∙ ap (λ u. u.state.work.appended) idle in
          record {
            log = r.undoes.log ∙ (ap (λ (ss : List (Slot C)). onto ss (whole m relit)) none ∙ log);
            copies = ap (λ (memory : Memory). (working memory).copies) r.undoes.memory ∙ (ap (λ u. u.state.work.copies) idle
                ∙ (ext_get_or blank_page r.state.copies (undone m w.devices s).state.work.copies
                (r.redone'.many ∙ (ap (λ (p : PageModel). length p.pages) un.pages ∙ sym (un.true'.many ∙ red.many)))
                (λ p _. r.redone'.copies p ∙ (ap (λ (L : Log C). whole_page m L p) (log ∙ un.log) ∙ sym (un.true'.copies p)))
                ∙ sym (ap (λ (memory : Memory). (working memory).copies) un.memory)));
          }
