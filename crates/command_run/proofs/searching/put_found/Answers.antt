use Rattle.std.proofs.Common.{◌≡◌, ◌∙◌, false, true, sym, ap, subst, List, ℕ, IsErr, inl, inr, refl}
use Rattle.cli_words.specs.declared.orders.Goal.{Goal}
use Rattle.command_run.specs.Sought.{request}
use Rattle.command_run.specs.Meanings.{cert_of, meaning_of}
use Rattle.command_run.specs.Printing.{PrintsBy, PrintsPartBy}
use Rattle.command_run.specs.Putting.{PutsSome, put_whole}
use Rattle.command_run.proofs.Over.{finds_reply, fails_as}
use Rattle.command_run.proofs.Puts.{puts_both, came_to}
use Rattle.command_run.proofs.Replied.{reply_told, told_is, told_whole, told_held}
use Rattle.command_run.proofs.searching.put_found.Goals as goal

pub returns-in-Ok : goal.returns-in-Ok
returns-in-Ok g c =
    let over = c.args.over.now in
    let s = over.search.now in
    let sought = g.F.Found.sought in
    let found = g.F.Found.shown c.args.found.now in
    let a = c.args.reply.now in
    let cert = cert_of (meaning_of sought) (request s) found in
    let old = g.D.Desk.state c.args.desk.now in
    let new = g.D.Desk.state c.put_both.new.desk in
    let told = reply_told sought over.part.now over.faulty.now s.budget found a c.requires.replies in
    record {
      answered = λ tell answer.
          let whole : new ≡ put_whole s.path cert a.text old = c.in-Ok.ensures.all tell ∙ (ap (λ (p : List ℕ). put_whole p cert c.bytes.result.now old) c.as_str.ensures ∙ ap (λ (t : List ℕ). put_whole s.path cert t old) c.bytes.ensures) in
          subst (λ (x : Goal). PrintsBy (meaning_of x) s old new a.status) (sym c.requires.asked) (inl (record { reply = finds_reply sought over found a c.requires.over c.requires.small c.requires.found c.requires.replies; put = puts_both s.path cert a old new whole }));
      part = λ tell failed. absurd (told_whole a.status told failed);
      silent = λ tell wanting. absurd (told_held a.status told wanting);
      ends = inl (told_is a.status told);
      faults = fails_as _ _ (IsErr c.put_both.result) (_ ≡ _) (λ failed. absurd (told_whole a.status told failed)) (λ err. absurd (let k = subst IsErr c.in-Ok.is err in cc)) c.put_both.ensures.faults;
    }

pub returns-in-Err : goal.returns-in-Err
returns-in-Err g c =
    let over = c.args.over.now in
    let s = over.search.now in
    let sought = g.F.Found.sought in
    let found = g.F.Found.shown c.args.found.now in
    let a = c.args.reply.now in
    let cert = cert_of (meaning_of sought) (request s) found in
    let old = g.D.Desk.state c.args.desk.now in
    let new = g.D.Desk.state c.put_both.new.desk in
    record {
      answered = λ tell answer. absurd (let k : false ≡ true = answer in cc);
      part = λ tell failed.
          let some = subst (λ (t : List ℕ). PutsSome s.path cert t old new) c.bytes.ensures (subst (λ (p : List ℕ). PutsSome p cert c.bytes.result.now old new) c.as_str.ensures (c.in-Err.ensures.part tell)) in
          subst (λ (x : Goal). PrintsPartBy (meaning_of x) s old new) (sym c.requires.asked) (inl (record { reply = finds_reply sought over found a c.requires.over c.requires.small c.requires.found c.requires.replies; came = came_to s.path cert a.text old new some }));
      silent = λ tell wanting. absurd cc;
      ends = inr (inl refl);
      faults = fails_as _ _ (IsErr c.put_both.result) (_ ≡ _) (λ failed. subst IsErr (sym c.in-Err.is) refl) (λ err. refl) c.put_both.ensures.faults;
    }
