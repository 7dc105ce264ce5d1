use Rattle.std.proofs.Common.{◌≡◌, false, is_some, arith}
use Rattle.tables.proofs.Pages.{has_place, once_more, not_found}
use Rattle.rules.specs.Tables.{find_page}
use Rattle.tables.proofs.dirty.DirtyTable.enter.Goals as goal

pub push_reserved-requires : goal.push_reserved-requires
push_reserved-requires c =
    let absent : is_some (find_page c.args.page c.self.inside.list.items) ≡ false = rw c.self.view_is (not_found (λ x. x.now) c.find_page.result c.find_page.ensures c.if-is_none.ensures) in
    let free = has_place c.args.page c.self.inside.list.items c.requires absent c.self.invariant.1 in
    let room = c.self.invariant.0.room in
    omega arith

pub invariant_of-self : goal.invariant_of-self
invariant_of-self c =
    let absent : is_some (find_page c.args.page c.self.inside.list.items) ≡ false = rw c.self.view_is (not_found (λ x. x.now) c.find_page.result c.find_page.ensures c.if-is_none.ensures) in
    let free = has_place c.args.page c.self.inside.list.items c.requires absent c.self.invariant.1 in
    let room = c.self.invariant.0.room in
    let len = c.push_reserved.ensures.len in
    let capacity = c.push_reserved.ensures.capacity in
    (record { few = omega arith; room = omega arith }, rw c.push_reserved.ensures.items (once_more c.args.page c.args.start c.self.inside.list.items c.requires absent c.self.invariant.1))
