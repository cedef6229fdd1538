use Rattle.std.proofs.Common.{◌∙◌, sym, arith, rules}
use Rattle.fbas_model.specs.Nodes.{members}
use Rattle.fbas_model.proofs.Listed.{listed_next, listed_nowhere}
use Rattle.fbas_model.proofs.Sizes.{member_lt}
use Rattle.name_set.proofs.WordLaws.{same-length}
use Rattle.name_set.proofs.WordRests.{first_below, first_least, first_rest}
use Rattle.name_set.proofs.words.MembersIterator.next.Goals as goal

pub first_left-requires : goal.first_left-requires
first_left-requires g c =
    (omega (arith, c.set.invariant.few), omega (arith, c.self.invariant.1.reached, c.self.invariant.0, same-length g.row.W c.set.inside.n c.set.inside.words c.self.inside.set.now c.set.invariant c.set.view_is, c.set.invariant.fits, c.set.invariant.few))

pub returns-in_default-clause-steps : goal.returns-in_default-clause-steps
returns-in_default-clause-steps g c =
    let none = sym c.self.view_is ∙ listed_nowhere c.self.inside.from c.self.inside.set.now (c.in_default.ensures c.self.inside.from c.self.invariant.1) in
    (none, none)

pub overflow_cast-number : goal.overflow_cast-number
overflow_cast-number g c =
    let t = c.self.inside.set.now in
    let first = c.in-Some.ensures c.self.inside.from c.self.invariant.1 in
    let least = first_least (members t) c.self.inside.from c.in-Some.at c.in-Some.rest first in
    omega (arith, member_lt t _ least.1, same-length g.row.W c.set.inside.n c.set.inside.words t c.set.invariant c.set.view_is, c.set.invariant.fits, c.set.invariant.few)

pub overflow_mul-number : goal.overflow_mul-number
overflow_mul-number g c =
    let t = c.self.inside.set.now in
    let first = c.in-Some.ensures c.self.inside.from c.self.invariant.1 in
    let least = first_least (members t) c.self.inside.from c.in-Some.at c.in-Some.rest first in
    omega (arith, member_lt t _ least.1, same-length g.row.W c.set.inside.n c.set.inside.words t c.set.invariant c.set.view_is, c.set.invariant.fits, c.set.invariant.few)

pub overflow_add-number : goal.overflow_add-number
overflow_add-number g c =
    let t = c.self.inside.set.now in
    let first = c.in-Some.ensures c.self.inside.from c.self.invariant.1 in
    let least = first_least (members t) c.self.inside.from c.in-Some.at c.in-Some.rest first in
    omega (arith, member_lt t _ least.1, same-length g.row.W c.set.inside.n c.set.inside.words t c.set.invariant c.set.view_is, c.set.invariant.fits, c.set.invariant.few)

pub overflow_add-self : goal.overflow_add-self
overflow_add-self g c =
    let t = c.self.inside.set.now in
    let first = c.in-Some.ensures c.self.inside.from c.self.invariant.1 in
    let least = first_least (members t) c.self.inside.from c.in-Some.at c.in-Some.rest first in
    omega (arith, member_lt t _ least.1, same-length g.row.W c.set.inside.n c.set.inside.words t c.set.invariant c.set.view_is, c.set.invariant.fits, c.set.invariant.few)

pub overflow_shl-self : goal.overflow_shl-self
overflow_shl-self g c = first_below (members c.self.inside.set.now) c.self.inside.from c.in-Some.at c.in-Some.rest (c.in-Some.ensures c.self.inside.from c.self.invariant.1)

pub invariant_of-self : goal.invariant_of-self
invariant_of-self g c =
    let t = c.self.inside.set.now in
    let first = c.in-Some.ensures c.self.inside.from c.self.invariant.1 in
    let least = first_least (members t) c.self.inside.from c.in-Some.at c.in-Some.rest first in
    (omega (arith, member_lt t _ least.1), first_rest (members t) c.self.inside.from c.in-Some.at c.in-Some.rest first)

pub returns-clause-steps : goal.returns-clause-steps
returns-clause-steps g c =
    let t = c.self.inside.set.now in
    let first = c.in-Some.ensures c.self.inside.from c.self.invariant.1 in
    let least = first_least (members t) c.self.inside.from c.in-Some.at c.in-Some.rest first in
    sym c.self.view_is ∙ listed_next c.self.inside.from _ t least

pub returns-clause-goes : goal.returns-clause-goes
returns-clause-goes g c =
    let t = c.self.inside.set.now in
    let first = c.in-Some.ensures c.self.inside.from c.self.invariant.1 in
    let least = first_least (members t) c.self.inside.from c.in-Some.at c.in-Some.rest first in
    let steps = sym c.self.view_is ∙ listed_next c.self.inside.from _ t least in
    rw steps (search rules)
