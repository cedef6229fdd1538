use Rattle.desk_io.proofs.Untold.{untold_ok, untold_err, untold_if_ok}
use Rattle.desk_io.proofs.real.RealDeskDesk.TheImpl.Goals as goal

pub begin-tells : goal.begin-tells
begin-tells g c = record {
  begun = untold_ok c.result _;
  failed = untold_err c.result _;
  plain = untold_err c.result _;
  cause = c.ensures.cause;
}

pub next-tells : goal.next-tells
next-tells g c = record {
  bound = c.ensures.bound;
  taken = untold_if_ok c.result _;
  end = untold_if_ok c.result _;
  failed = untold_err c.result _;
  plain = untold_err c.result _;
  cause = c.ensures.cause;
}

pub create-tells : goal.create-tells
create-tells g c = record {
  created = untold_ok c.result _;
  allowed = untold_ok c.result _;
  failed = untold_err c.result _;
  plain = untold_err c.result _;
  cause = c.ensures.cause;
}

pub put-tells : goal.put-tells
put-tells g c = record {
  bound = c.ensures.bound;
  some = c.ensures.some;
  written = untold_if_ok c.result _;
  fits = untold_if_ok c.result _;
  created = untold_ok c.result _;
  failed = untold_err c.result _;
  plain = untold_err c.result _;
  cause = c.ensures.cause;
}
