-- A restart that was cut anywhere and then finished keeps the same jobs, and so reaches the same content, as one that was not.
use Rattle.std.proofs.Common.{◌≡◌, ℕ, Bool, cond, ◌&&◌, eqb, List, [], ◌∷◌, ◌++◌, sym, refl, ap, ◌∙◌, subst, ap₂}
use Rattle.format.specs.Changes.{Meaning, Lawful}
use Rattle.rules.specs.Ledger.{Ledger, Entry, is_in, committed_of, settled, content_by, content_of}
use Rattle.rules.specs.Plans.{powered_on}
use Rattle.promises.specs.Promises.{Restarted, Passes, none, remade, analyses, redoes, undoes, copy_in}
use Rattle.rules.specs.Restart.{whole, undone}
use Rattle.rules.specs.Service.{copy_of}
use Rattle.rules.specs.State.{Devices, Memory, World, Working, working}
use Rattle.promises.proofs.Finishing.{undo_comes}
use Rattle.promises.proofs.Invariants.{Settled, Stage, Good}
use Rattle.promises.proofs.Looking.{free_content}
use Rattle.promises.proofs.Powering.{kept_powered_on, kept_left_over, powered_on_left_over, settles}
use Rattle.promises.proofs.Restarting.{analysis_comes, redo_comes}
use Rattle.promises.proofs.Restarts.{Restarts, restarts}

module _ {C : Type 0} (m : Meaning C) (law : Lawful m) where
  -- the jobs that a restart from here keeps
  abbrev keeps : Ledger C → Devices → ℕ → Bool
  keeps h d j = is_in j (settled (whole m (powered_on d)) h).kept

  -- where nobody is doubtful that is a matter of the ledger alone
  keeps_settled : (h : Ledger C) (d : Devices) (j : ℕ) → h.doubtful ≡ [] → keeps h d j ≡ is_in j h.kept
  keeps_settled h d j e = ap (λ (js : List ℕ). is_in j (committed_of (whole m (powered_on d)) js ++ h.kept)) e

  record Passed (h : Ledger C) (w u : World) : Type 0 where
    ledger : Ledger C
    good : Good m ledger u
    entries : ledger.entries ≡ h.entries
    same : (j : ℕ) → keeps ledger u.devices j ≡ keeps h w.devices j

  passed : (h : Ledger C) (w x : World) → Good m h w → Passes m w x → Passed h w x
  passed h w x g none = record { ledger = h; good = g; entries = refl; same = λ j. refl }
  passed h w x g (remade {u = u} cut a b p) =
      let q = passed h w u g p in
      record {
        ledger = q.ledger;
        good = record { kept = kept_left_over m q.ledger u.devices cut a b q.good.kept; stage = tt };
        entries = q.entries;
        same = λ j. ap (λ d. is_in j (settled (whole m d) q.ledger).kept) (powered_on_left_over m u.devices cut a b) ∙ q.same j;
      }
  passed h w x g (analyses {u = u} r p y) =
      let q = passed h w u g p in
      let a = analysis_comes m q.ledger u x r q.good (kept_powered_on m q.ledger u.devices q.good.kept) y in
      let s = settles m q.ledger u.devices q.good.kept in
      record {
        ledger = settled (whole m (powered_on u.devices)) q.ledger;
        good = subst (Good m (settled (whole m (powered_on u.devices)) q.ledger)) (sym a.leaves) (record { kept = s.0; stage = (s.1, a.stage) });
        entries = q.entries;
        same = q.same;
      }
  passed h w x g (redoes {u = u} r p y) =
      let q = passed h w u g p in
      redo_comes m (λ r v. Passed h w v) q.ledger u.devices u.memory x r q.good q
      (λ f e s a. subst (Passed h w) (sym a.leaves) (record { ledger = q.ledger; good = record { kept = q.good.kept; stage = (s, a.stage) }; entries = q.entries; same = q.same })) y
  passed h w x g (undoes {u = u} r p y) =
      let q = passed h w u g p in
      let same : Settled m q.ledger u.devices → (j : ℕ) → keeps q.ledger x.devices j ≡ keeps h w.devices j
      = λ s j. keeps_settled q.ledger x.devices j s.none ∙ (sym (keeps_settled q.ledger u.devices j s.none) ∙ q.same j) in
      undo_comes m law (λ r v. v ≡ x → Passed h w x) q.ledger u.devices u.memory x r q.good
      (λ e. subst (Passed h w) e q)
      (λ why s e n mem k i. record { ledger = q.ledger; good = record { kept = k; stage = subst (Stage m q.ledger x.devices) (sym mem) tt }; entries = q.entries; same = same s })
      (λ z s mem d un k st i. record { ledger = q.ledger; good = record { kept = k; stage = st }; entries = q.entries; same = same s }) y refl

  -- the content in the ledger, by who is kept
  content_alike : (f g : List ℕ) (p : ℕ) (es : List (Entry C)) → ((j : ℕ) → is_in j f ≡ is_in j g) → content_by m f p es ≡ content_by m g p es
  content_alike f g p [] e = refl
  content_alike f g p (x ∷ xs) e = ap₂ (λ (b : Bool) (c : List ℕ). cond (eqb x.page p && b) (m.put x.change c) c) (e x.job) (content_alike f g p xs e)

  -- after a restart every copy is as the ledger says
  restart_content : (h : Ledger C) (w v : World) → Restarts m law h w v → (p : ℕ) → (copy_in v p).content ≡ content_of m (settled (whole m (powered_on w.devices)) h) p
  restart_content h w v r p =
      let d = powered_on w.devices in
      let s : Working = record { copies = (undone m d r.state).state.work.copies; jobs = []; first = r.state.first } in
      ap (λ (memory : Memory). (copy_of (working memory).copies p).content) r.undoes.memory
      ∙ free_content m law (settled (whole m d) h) v.devices s p r.good.kept (subst (Stage m (settled (whole m d) h) v.devices) r.undoes.memory r.good.stage) refl

  pub cut_same : (h : Ledger C) (w v x u : World) → Good m h w → Restarted m w v → Passes m w x → Restarted m x u → (p : ℕ) → (copy_in v p).content ≡ (copy_in u p).content
  cut_same h w v x u g a p b page =
      let q = passed h w x g p in
      restart_content h w v (restarts m law h w v g a) page
      ∙ (content_alike (settled (whole m (powered_on w.devices)) h).kept (settled (whole m (powered_on x.devices)) q.ledger).kept page h.entries (λ j. sym (q.same j))
      ∙ (ap (content_by m (settled (whole m (powered_on x.devices)) q.ledger).kept page) (sym q.entries)
      ∙ sym (restart_content q.ledger x u (restarts m law q.ledger x u q.good b) page)))
