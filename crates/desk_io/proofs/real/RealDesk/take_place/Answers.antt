use Rattle.std.proofs.Common.{sym, subst}
use Rattle.desk_io.specs.RealDesk.{IsPlaced}
use Rattle.desk_io.specs.Spare.{MayGo}
use Rattle.desk_io.proofs.real.RealDesk.take_place.Goals as goal

pub returns-in-Some-Some : goal.returns-in-Some-Some
returns-in-Some-Some g c = record {
  placed = λ yes. subst (IsPlaced g.R.Folder.renamed (MayGo g.R.Folder.opened g.R.File.Read.remaining g.R.Folder.linked g.R.Folder.seen g.R.Folder.missing)) (sym c.in-Some-Some.is-0) (c.take_place.ensures.renamed yes, c.take_place.ensures.may_go yes);
}
