use Rattle.std.proofs.Common.{arith}
use Rattle.calls.proofs.Owing.{record_counted}
use Rattle.calls.proofs.room.PendingReader.note.Goals as goal

pub returns-in-Record : goal.returns-in-Record
returns-in-Record g c = λ start L next said.
    (said.0, record_counted L c.args.slot.now c.in-Record.record c.args.self.now.jobs.now c.args.self.now.counts c.count.new.counts c.in-Record.is (omega arith) c.count.ensures said.1)
