-- What a clause says where a desk tells nothing.
use Rattle.std.proofs.Common.{IsTrue, false, Ok, Err}
use Rattle.std.specs.Prelude.{Result, OnOk, OnErr, IfOk}

pub untold_ok : {T E : Type 0} (r : Result T E) (P : Type 0) → OnOk r (IsTrue false → P)
untold_ok (Ok x) P = λ told. absurd (cc told)
untold_ok (Err e) P = tt

pub untold_err : {T E : Type 0} (r : Result T E) (P : Type 0) → OnErr r (IsTrue false → P)
untold_err (Ok x) P = tt
untold_err (Err e) P = λ told. absurd (cc told)

pub untold_if_ok : {T E : Type 0} (r : Result T E) (P : T → Type 0) → IfOk r (λ x. IsTrue false → P x)
untold_if_ok (Ok x) P = λ told. absurd (cc told)
untold_if_ok (Err e) P = tt
