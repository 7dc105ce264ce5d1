use Rattle.std.proofs.Common.{◌≡◌, ◌+◌, min, true, false, Err, rules, arith}
use Rattle.device.specs.declared.log_store.LogFault.TheVariants.{PowerLost}
use Rattle.paged_log.specs.PagedLogs.{room}
use Rattle.paged_log.proofs.PagedLogCalls.{slot_fault, lost_already, full_already, append_put}
use Rattle.paged_log.proofs.store.PagedLogLogStore.append.Goals as goal

pub returns-in_err-check_power-clause-appended : goal.returns-in_err-check_power-clause-appended
returns-in_err-check_power-clause-appended g c =
    let self = c.args.self.now in
    let m = g.P.PageStore.model self.pages in
    let off : m.powered ≡ false = search rules in
    let lost : c.from_residual.result ≡ Err (PowerLost (min self.len (room m) + 1)) = search rules in
    rw lost (lost_already m self.len self.last c.args.bytes.now off)

pub returns-then-n-capacity-clause-appended : goal.returns-then-n-capacity-clause-appended
returns-then-n-capacity-clause-appended g c =
    let self = c.args.self.now in
    let on : (g.P.PageStore.model self.pages).powered ≡ true = search rules in
    full_already (g.P.PageStore.model self.pages) self.len self.last c.args.bytes.now on (omega arith)

pub returns : goal.returns
returns g c =
    let self = c.args.self.now in
    let m = g.P.PageStore.model self.pages in
    let on : m.powered ≡ true = search rules in
    let n = c.min-n.result in
    let lost : c.map_err.result ≡ slot_fault c.put.result (n + 1) = search rules in
    let put = append_put m on (g.P.PageStore.sound self.pages) self.len self.last c.args.bytes.now (record { size = c.told-bytes; small = c.fits-bytes })
    n (omega arith) (omega arith) c.put.result (g.P.PageStore.model c.put.new.pages) c.put.ensures in
    rw lost (record { appended = put.outcome; written = put.written; agrees = put.agrees })
