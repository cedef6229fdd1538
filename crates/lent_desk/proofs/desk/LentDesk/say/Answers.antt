use Rattle.std.proofs.Common.{true, codes, ◌∷◌, [], ◌≡◌, ◌+◌, ◌-◌, ◌++◌, length, take, drop, ap, ◌∙◌, arith}
use Rattle.std.specs.Option.{option_map}
use Rattle.lent_desk.specs.declared.spans.Open.{Open}
use Rattle.lent_desk.specs.Files.{name_of}
use Rattle.lent_desk.specs.Spans.{files_in}
use Rattle.lent_desk.specs.Left.{all_rest_in}
use Rattle.lent_desk.specs.LentDesk.{kept_in, mark_of}
use Rattle.lent_desk.proofs.Steps.{front_stays}
use Rattle.lent_desk.proofs.desk.LentDesk.say.Goals as goal

pub returns-clause-said : goal.returns-clause-said
returns-clause-said c =
    let d = c.args.self.now in
    let bytes = c.args.bytes.now in
    let new = c.put_last.new.buf in
    let len = c.put_last.ensures.len in
    let kept : take d.kept new ≡ kept_in d = front_stays d.kept (length d.room.now - (d.said + length bytes)) d.room.now new (omega (arith, c.requires, d.fits)) c.put_last.ensures.front in
    let out : drop (length new - (d.said + length bytes)) new ≡ drop (length d.room.now - d.said) d.room.now ++ bytes = ap (λ n. drop (n - (d.said + length bytes)) new) len ∙ c.put_last.ensures.last in
    let room : length new - (d.kept + (d.said + length bytes)) ≡ length d.room.now - (d.kept + d.said) - length bytes = omega (arith, len) in
    λ i. record {
      files = files_in d.lent d.spans (kept i);
      may_create = codes "made" ∷ [];
      left = all_rest_in d.left (kept i);
      out = mark_of d.room ++ out i;
      created = option_map (λ (x : Open). name_of x.file) d.created;
      room = room i;
      plain = true;
    }
