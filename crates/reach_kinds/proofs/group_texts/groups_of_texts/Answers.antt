use Rattle.std.proofs.Common.{◌≡◌, ◌++◌, ◌∷◌, [], ◌∙◌, sym, ap, refl, true, List, append_assoc}
use Rattle.std.proofs.lemmas.List.{append-nil, length-map}
use Rattle.fbas_model.specs.Names.{marks}
use Rattle.fbas_model.proofs.Marks.{marks-none}
use Rattle.node_json.specs.Groups.{Group, texts_of}
use Rattle.cert_lines.specs.Words.{Word}
use Rattle.reach_kinds.specs.Bodies.{all_among}
use Rattle.reach_kinds.proofs.ListLaws.{among_here, among_nowhere, is_among-here, is_among-nowhere, marked_more}
use Rattle.reach_kinds.proofs.GroupTexts.{text_unknown, texts_known}
use Rattle.reach_kinds.proofs.group_texts.groups_of_texts.Goals as goal

pub loop-text-init : goal.loop-text-init
loop-text-init c = record {
  size = c.new-set.ensures.size ∙ c.len.ensures.count;
  known = refl;
  marked = ([], refl, marks-none (texts_of c.args.groups.now) c.new-set.result (c.new-set.ensures.size ∙ c.len.ensures.count ∙ sym (length-map c.args.groups.now (λ (group : Group). group.text))) c.new-set.ensures.empty);
}

pub loop-text-preserved : goal.loop-text-preserved
loop-text-preserved c =
    let so_far = c.loop-text.invariant in
    let names = texts_of c.args.groups.now in
    let text = c.in-Some.text.now in
    let left = c.loop-text.texts in
    let rest = c.next.new.self in
    let is = c.in-Some.ensures.steps in
    let done = so_far.marked.0 in
    let all : c.args.texts.now ≡ (done ++ text ∷ []) ++ rest = so_far.marked.1 ∙ ap (λ (ws : List Word). done ++ ws) is ∙ sym (append_assoc done (text ∷ []) rest) in
    record {
      size = c.put.ensures.size ∙ so_far.size;
      known = so_far.known ∙ among_here names true left text rest is (is_among-here names text c.in-Some-find_group.at c.in-Some-find_group.ensures.found);
      marked = (
        done ++ text ∷ [],
        all,
        marked_more names done c.loop-text.set c.put.new.self text c.in-Some-find_group.at c.in-Some-find_group.ensures.found c.in-Some-find_group.ensures.only
            (c.put.ensures.size ∙ so_far.size ∙ sym (length-map c.args.groups.now (λ (group : Group). group.text))) c.put.ensures.added so_far.marked.2,
      );
    }

pub returns-in_default-find_group-clause-value : goal.returns-in_default-find_group-clause-value
returns-in_default-find_group-clause-value c =
    let so_far = c.loop-text.invariant in
    let names = texts_of c.args.groups.now in
    let text = c.in-Some.text.now in
    sym (text_unknown names c.args.line c.args.texts.now (so_far.known ∙ among_nowhere names true c.loop-text.texts text c.next.new.self c.in-Some.ensures.steps (is_among-nowhere names text c.in_default-find_group.ensures.found)))

pub returns-clause-value : goal.returns-clause-value
returns-clause-value c =
    let so_far = c.loop-text.invariant in
    let names = texts_of c.args.groups.now in
    let none = c.in_default.ensures.steps.0 in
    let done = so_far.marked.0 in
    let whole : c.args.texts.now ≡ done = so_far.marked.1 ∙ ap (λ (ws : List Word). done ++ ws) none ∙ append-nil done in
    sym (texts_known names c.args.line c.args.texts.now c.loop-text.set (so_far.known ∙ ap (λ (ws : List Word). all_among ws names) none) (so_far.marked.2 ∙ ap (marks names) (sym whole)))
