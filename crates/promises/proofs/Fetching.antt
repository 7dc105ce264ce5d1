-- A fetch leaves a good state: the job holds the page, and nobody else does. Assumes nothing.
use Rattle.std.proofs.Common.{◌≡◌, ℕ, true, false, ◌⊎◌, List, Result, sym, ap, ◌∙◌, inl, inr}
use Rattle.std.proofs.lemmas.Bool.{not-true}
use Rattle.format.specs.Changes.{Meaning, Lawful}
use Rattle.rules.specs.declared.refusal.Refusal.{Refusal}
use Rattle.rules.specs.Ledger.{Ledger}
use Rattle.rules.specs.Plans.{Does}
use Rattle.rules.specs.Runs.{fetches, told_service}
use Rattle.rules.specs.Service.{with_jobs, fetch_in}
use Rattle.rules.specs.State.{Devices, Working, serving, World}
use Rattle.rules.specs.Tables.{with_hold, held_by, held_by_another}
use Rattle.promises.proofs.Asking.{asked}
use Rattle.promises.proofs.Invariants.{Kept, Serving, Stage, Good}
use Rattle.promises.proofs.Serves.{nothing_done}
use Rattle.promises.proofs.TableLaws.{bare_with_hold, held_more, held_only, is_held_more, not_another}

module _ {C : Type 0} (m : Meaning C) where
  fetched : (j p : ℕ) (d : Devices) (s : Working) → held_by_another j p s.jobs ≡ false → Serving m d s
      → Serving m d (record { copies = s.copies; jobs = with_hold j p s.jobs; first = s.first })
  fetched j p d s free sv = record {
    power = sv.power;
    jobs = bare_with_hold j p s.jobs ∙ sv.jobs;
    one = λ a b q ha hb. alone a b q (held_only j p a q s.jobs ha) (held_only j p b q s.jobs hb);
    changed = λ a x o i. held_more j p a x.record'.page s.jobs (sv.changed a x o i);
    many = sv.many;
    copies = λ q. let c = sv.copies q in record { image = c.image; above = c.above; below = c.below; complete = λ e. c.complete (is_held_more j p q s.jobs e) };
    first = sv.first;
    young = sv.young;
    opened = sv.opened;
  }
    where
      mine : (a q : ℕ) → held_by a q s.jobs ≡ true → q ≡ p → a ≡ j
      mine a q e same = not_another j a p s.jobs free (ap (λ (x : ℕ). held_by a x s.jobs) (sym same) ∙ e)

      alone : (a b q : ℕ) → (held_by a q s.jobs ≡ true) ⊎ ((a ≡ j) × (q ≡ p)) → (held_by b q s.jobs ≡ true) ⊎ ((b ≡ j) × (q ≡ p)) → a ≡ b
      alone a b q (inl x) (inl y) = sv.one a b q x y
      alone a b q (inl x) (inr y) = mine a q x y.1 ∙ sym y.0
      alone a b q (inr x) (inl y) = x.0 ∙ sym (mine b q y x.1)
      alone a b q (inr x) (inr y) = x.0 ∙ sym y.0

module _ {C : Type 0} (m : Meaning C) (law : Lawful m) where
  pub fetch_good : (h : Ledger C) (j p n : ℕ) (d : Devices) (s : Working) (r : Result (List ℕ) Refusal) (v : World) → Kept m h d → Stage m h d (serving s)
      → Does m (fetch_in m j p n d s) (record { devices = d; memory = serving s }) r v → Good m (told_service m (fetches j p n) r h) v
  fetch_good h j p n d s r v k st x = asked m Q same (λ e₁ x₁. asked m Q same (λ e₂ x₂. asked m Q same (λ e₃ x₃. asked m Q same (λ e₄ x₄.
      nothing_done m Q (fetched_it (not-true _ e₄)) x₄) x₃) x₂) x₁) x
    where
      Q : Result (List ℕ) Refusal → World → Type 0
      Q r v = Good m (told_service m (fetches j p n) r h) v

      same : Good m h (record { devices = d; memory = serving s })
      same = record { kept = k; stage = st }

      fetched_it : held_by_another j p s.jobs ≡ false → Good m h (record { devices = d; memory = with_jobs s (with_hold j p s.jobs) })
      fetched_it free = record { kept = k; stage = (st.0, fetched m j p d s free st.1, st.2) }
