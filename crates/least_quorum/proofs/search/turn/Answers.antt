use Rattle.std.proofs.Common.{◌≡◌, ℕ, ◌<◌, Bool, false, ◌∙◌, sym, ap, subst, length, arith}
use Rattle.fbas_model.specs.Nodes.{Table, members, size}
use Rattle.fbas_model.specs.Fbas.{Fbas}
use Rattle.greatest_quorum.specs.Greatest.{greatest_of}
use Rattle.greatest_quorum.proofs.GreatestLaws.{length-greatest_of}
use Rattle.lrat_model.specs.Literal.{clause_true}
use Rattle.cdcl_core.specs.Solving.{assignment}
use Rattle.enumeration_journal.specs.declared.kinds.Listed.TheVariants.{Quorum, Blocking}
use Rattle.enumeration_journal.proofs.Greatest.{IsGreatest, greatest_by_counting}
use Rattle.enumeration_journal.proofs.Duality.{quorum_within}
use Rattle.blocking_lists.proofs.Turns.{blocking_out, apart_from_set, model_left}
use Rattle.least_journal.specs.Least.{clause_in}
use Rattle.least_quorum.specs.Search.{best_in, IsLeastListing}
use Rattle.least_quorum.proofs.Found.{true_outside, found_smaller, wanted_by}
use Rattle.least_quorum.proofs.Listings.{best_then, least_quorum_line, same_best, least_block_line}
use Rattle.least_quorum.proofs.search.turn.Goals as goal

-- a place for each node
places_of : (f : Fbas) (b g : Table) (n : ℕ) → g ≡ greatest_of f b → n ≡ length f → length g ≡ n
places_of f b g n is size = ap (λ (t : Table). length t) is ∙ length-greatest_of f b ∙ sym size

pub model_set-set-requires-clause-places : goal.model_set-set-requires-clause-places
model_set-set-requires-clause-places c = places_of c.args.system.now.sets c.args.faulty.now c.args.greatest.now c.len-n.result c.requires.greatest c.len-n.ensures.sets

pub add_line-requires-clause-places : goal.add_line-requires-clause-places
add_line-requires-clause-places c = places_of c.args.system.now.sets c.args.faulty.now c.args.greatest.now c.len-n.result c.requires.greatest c.len-n.ensures.sets

pub add_line-requires-2-clause-places : goal.add_line-requires-2-clause-places
add_line-requires-2-clause-places c = places_of c.args.system.now.sets c.args.faulty.now c.args.greatest.now c.len-n.result c.requires.greatest c.len-n.ensures.sets

pub minimal_block-requires-clause-blocks : goal.minimal_block-requires-clause-blocks
minimal_block-requires-clause-blocks c =
    let f = c.args.system.now.sets in
    let b = c.args.faulty.now in
    let g = c.args.greatest.now in record {
      left = model_left Quorum f (members b) g (assignment c.args.solver.now) c.model_set-set.result (greatest_by_counting f b g c.requires.greatest c.requires.same_faulty) c.model_set-set.ensures.model;
      meets = c.blocks-2.ensures.blocks.0 c.if-blocks.true;
    }

pub add_line-requires-2-clause-within : goal.add_line-requires-2-clause-within
add_line-requires-2-clause-within c =
    let f = c.args.system.now.sets in
    let b = c.args.faulty.now in
    let g = c.args.greatest.now in
    quorum_within f (members b) g (members c.minimal_quorum.new.q) (greatest_by_counting f b g c.requires.greatest c.requires.same_faulty) c.minimal_quorum.ensures.minimal.quorum

pub add_line-requires-2-clause-some : goal.add_line-requires-2-clause-some
add_line-requires-2-clause-some c = λ _. c.minimal_quorum.ensures.minimal.quorum.inhabited

pub returns-then-left-eq0-clause-wanted : goal.returns-then-left-eq0-clause-wanted
returns-then-left-eq0-clause-wanted c = λ _.
    let f = c.args.system.now.sets in
    let b = c.args.faulty.now in
    let g = c.args.greatest.now in
    wanted_by f (members b) g (assignment c.args.solver.now) c.args.solver.now.database.held c.model_set-set.result (greatest_by_counting f b g c.requires.greatest c.requires.same_faulty) c.requires.solves
    c.model_set-set.ensures.model (c.model_set-set.ensures.same_n ∙ c.len-n.ensures.sets) (c.blocks-2.ensures.blocks.0 c.if-blocks.true)

pub returns-then-blocks-clause-goes_on : goal.returns-then-blocks-clause-goes_on
returns-then-blocks-clause-goes_on c = λ yes total is.
    let f = c.args.system.now.sets in
    let b = c.args.faulty.now in
    let g = c.args.greatest.now in
    let a : ℕ → Bool = assignment c.args.solver.now in
    let s = c.minimal_block.new.s in
    let greatest : IsGreatest f (members b) g = greatest_by_counting f b g c.requires.greatest c.requires.same_faulty in
    let out : clause_true a (clause_in g Blocking s) ≡ false = blocking_out Quorum g a c.model_set-set.result s c.model_set-set.ensures.model c.minimal_block.ensures.within in
    let places : length s ≡ length f = c.minimal_block.ensures.same_n ∙ c.model_set-set.ensures.same_n ∙ c.len-n.ensures.sets in
    let done = c.in_ok-add_line.ensures in
    least_block_line f (members b) g greatest total c.args.listed.now.items c.add_line.new.listed.items c.args.solver.now c.add_line.new.solver c.requires.room
    s places c.minimal_block.ensures.minimal a c.requires.solves out done c.take.new.self
    (subst (λ (n : ℕ). IsLeastListing f (members b) g total n c.args.listed.now.items c.args.solver.now) (sym c.take.ensures) is)

pub returns-then-blocks-clause-falls : goal.returns-then-blocks-clause-falls
returns-then-blocks-clause-falls c = λ yes total is.
    let f = c.args.system.now.sets in
    let b = c.args.faulty.now in
    let g = c.args.greatest.now in
    let a : ℕ → Bool = assignment c.args.solver.now in
    let s = c.minimal_block.new.s in
    let greatest : IsGreatest f (members b) g = greatest_by_counting f b g c.requires.greatest c.requires.same_faulty in
    let out : clause_true a (clause_in g Blocking s) ≡ false = blocking_out Quorum g a c.model_set-set.result s c.model_set-set.ensures.model c.minimal_block.ensures.within in
    let places : length s ≡ length f = c.minimal_block.ensures.same_n ∙ c.model_set-set.ensures.same_n ∙ c.len-n.ensures.sets in
    let done = c.in_ok-add_line.ensures in
    let same = same_best f (members b) g greatest total c.args.listed.now.items c.add_line.new.listed.items c.args.solver.now c.add_line.new.solver c.requires.room
    s places c.minimal_block.ensures.minimal a c.requires.solves out done in
    omega (arith, c.take.ensures, same)

pub returns-clause-goes_on : goal.returns-clause-goes_on
returns-clause-goes_on c = λ yes total is.
    let f = c.args.system.now.sets in
    let b = c.args.faulty.now in
    let g = c.args.greatest.now in
    let a : ℕ → Bool = assignment c.args.solver.now in
    let u = c.minimal_quorum.new.q in
    let greatest : IsGreatest f (members b) g = greatest_by_counting f b g c.requires.greatest c.requires.same_faulty in
    let quorum = c.minimal_quorum.ensures.minimal.quorum in
    let within = quorum_within f (members b) g (members u) greatest quorum in
    let outside = apart_from_set f (members b) (members c.model_set-set.result) (members c.blocks-2.new.scratch) (members u) c.blocks-2.ensures.greatest.within c.minimal_quorum.ensures.within in
    let places : length u ≡ length f = c.minimal_quorum.ensures.same_n ∙ c.blocks-2.ensures.same_n ∙ c.new-inside.ensures.size ∙ c.len-n.ensures.sets in
    let trues = true_outside g a c.model_set-set.result u c.model_set-set.ensures.model within outside in
    let fewer : size u < best_in g c.args.listed.now.items = found_smaller f (members b) g total c.args.budget.now c.args.listed.now.items c.args.solver.now a u is c.requires.solves (places ∙ sym greatest.places) within trues in
    let done = c.in_ok-add_line-2.ensures in
    least_quorum_line f (members b) g greatest total c.args.listed.now.items c.add_line-2.new.listed.items c.args.solver.now c.add_line-2.new.solver c.requires.room
    u places quorum fewer done c.args.budget.now is

pub returns-clause-falls : goal.returns-clause-falls
returns-clause-falls c = λ yes total is.
    let f = c.args.system.now.sets in
    let b = c.args.faulty.now in
    let g = c.args.greatest.now in
    let a : ℕ → Bool = assignment c.args.solver.now in
    let u = c.minimal_quorum.new.q in
    let greatest : IsGreatest f (members b) g = greatest_by_counting f b g c.requires.greatest c.requires.same_faulty in
    let quorum = c.minimal_quorum.ensures.minimal.quorum in
    let within = quorum_within f (members b) g (members u) greatest quorum in
    let outside = apart_from_set f (members b) (members c.model_set-set.result) (members c.blocks-2.new.scratch) (members u) c.blocks-2.ensures.greatest.within c.minimal_quorum.ensures.within in
    let places : length u ≡ length f = c.minimal_quorum.ensures.same_n ∙ c.blocks-2.ensures.same_n ∙ c.new-inside.ensures.size ∙ c.len-n.ensures.sets in
    let trues = true_outside g a c.model_set-set.result u c.model_set-set.ensures.model within outside in
    let fewer : size u < best_in g c.args.listed.now.items = found_smaller f (members b) g total c.args.budget.now c.args.listed.now.items c.args.solver.now a u is c.requires.solves (places ∙ sym greatest.places) within trues in
    let done = c.in_ok-add_line-2.ensures in
    let then = best_then f (members b) g greatest total c.args.listed.now.items c.add_line-2.new.listed.items c.args.solver.now c.add_line-2.new.solver c.requires.room
    u places quorum fewer done in
    omega (arith, then, fewer)
