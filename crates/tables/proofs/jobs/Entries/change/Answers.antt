use Rattle.std.proofs.Common.{◌<◌, length, ap, ◌∙◌, arith, rules}
use borrow.Author.Tests.{tests}
use Rattle.tables.proofs.Words.{changed_more}
use Rattle.tables.proofs.jobs.Entries.change.Goals.{in-Some+then-entry-job, in-Some+else-entry-job, in_default}
use Rattle.tables.proofs.jobs.Entries.change.Goals as goal

pub loop-place-preserved : goal.loop-place-preserved
loop-place-preserved g c = let k = c.loop-place in let within : k.place < length c.args.self.now.list.items = omega (arith, c.args.self.now.list.ok.0) in record {
  F-IsAlwaysCallable = search rules;
  items = λ f makes. elim c.match-entry.branch [
    | in-Some+then-entry-job w ↦ ap (λ s. s.list.items) w.self-is ∙ changed_more _ _ _ _ w.in-Some.entry.now _ within (k.invariant.items f makes) w.in-Some.ensures.value (makes _ _ w.change.ensures ∙ search (rules, tests))
    | in-Some+else-entry-job w ↦ ap (λ s. s.list.items) w.self-is ∙ changed_more _ _ _ _ w.in-Some.entry.now _ within (k.invariant.items f makes) w.in-Some.ensures.value (search (rules, tests))
    | in_default w ↦ search rules
  ];
  len = search rules;
  capacity = search rules;
}
