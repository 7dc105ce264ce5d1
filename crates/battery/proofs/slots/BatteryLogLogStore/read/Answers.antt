use Rattle.std.proofs.Common.{◌≡◌, ℕ, suc, List, length, true, get_or, Ok, ap, ◌∙◌, rules, arith, Fits, w8}
use Rattle.std.specs.Option.{ok_or, option_copied}
use Rattle.device.specs.declared.log_store.LogFault.TheVariants.{Outside}
use Rattle.device.proofs.Rows.{as_bytes_is}
use Rattle.battery.specs.Batteries.{held}
use Rattle.battery.specs.BatteryStores.{log_model}
use Rattle.battery.proofs.BatteryReads.{copied_answer, row_got, slot_read}
use Rattle.battery.proofs.slots.BatteryLogLogStore.read.Goals as goal

pub returns : goal.returns
returns c =
    let h = held c.args.self.now in
    let o = option_copied c.get.result in
    let at = c.in_ok-place.place in
    let on : h.powered ≡ true = search rules in
    let is : c.copied.result ≡ ok_or o Outside = rw (c.copied.ensures, c.ok_or-2.ensures.value) (copied_answer c.get.result Outside) in
    let long : (x : List ℕ) → c.copied.result ≡ Ok x → length x ≡ 60 = λ x e. search rules in
    let fits : (x : List ℕ) → c.copied.result ≡ Ok x → (k : ℕ) → Fits w8 (get_or x k 0) = λ x e k. search rules in
    let next : c.args.slot ≡ suc at = grind arith in
    rw (next, is)
    (slot_read (log_model h) at o on
    (row_got 60 h at o c.get.ensures (λ x e. let got = is ∙ ap (λ q. ok_or q Outside) e in as_bytes_is 60 x (long x got) (λ k. (fits x got k).fits))))
