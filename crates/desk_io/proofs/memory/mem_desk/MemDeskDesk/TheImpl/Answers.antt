use Rattle.std.proofs.Common.{length, arith}
use Rattle.std.proofs.lemmas.List.{nil_from_length}
use Rattle.std.proofs.lemmas.Result.{IfOk-weaker, on_err_weaker}
use Rattle.desk_io.proofs.Told.{told_ok, told_err, told_if_ok, told_plain, told_never, cannot_more, moved_bound, moved_none, put_bound, put_some}
use Rattle.desk_io.proofs.memory.mem_desk.MemDeskDesk.TheImpl.Goals as goal

pub begin-tells : goal.begin-tells
begin-tells c = record {
  begun = told_ok c.result _ _ c.ensures.begun;
  failed = told_err c.result _ _ c.ensures.failed;
  plain = told_plain c.result _ _ _ _ c.ensures.fails;
  cause = c.ensures.cause;
}

pub create-tells : goal.create-tells
create-tells c = record {
  created = told_ok c.result _ _ c.ensures.created;
  allowed = told_ok c.result _ _ c.ensures.allowed;
  failed = told_err c.result _ _ c.ensures.failed;
  plain = told_plain c.result _ _ _ _ c.ensures.fails;
  cause = c.ensures.cause;
}

pub next-tells : goal.next-tells
next-tells c = record {
  bound = IfOk-weaker c.result _ _ (λ n is. moved_bound n _ _ _ is) c.ensures.count;
  taken = told_if_ok c.result _ _ c.ensures.taken;
  end = IfOk-weaker c.result _ _ (λ n is _ some none. nil_from_length _ (moved_none n _ _ _ is c.args.self.now.positive some none)) c.ensures.count;
  failed = told_err c.result _ _ c.ensures.failed;
  plain = told_never c.result _ _ _ c.ensures.due.0;
  cause = c.ensures.cause;
}

pub put-tells : goal.put-tells
put-tells c = record {
  bound = IfOk-weaker c.result _ _ (λ n is. put_bound n _ _ is) c.ensures.count;
  some = IfOk-weaker c.result _ _ (λ n is some. put_some n _ _ is c.args.self.now.positive some) c.ensures.count;
  written = told_if_ok c.result _ _ c.ensures.written;
  fits = told_if_ok c.result _ _ c.ensures.fits;
  created = told_ok c.result _ _ c.ensures.created;
  failed = told_err c.result _ _ c.ensures.failed;
  plain = on_err_weaker c.result (λ cannot tells none. cannot_more c.args.to _ (length c.args.bytes.now) _ (omega arith) (cannot tells none)) (told_plain c.result _ _ _ _ c.ensures.fails);
  cause = c.ensures.cause;
}
