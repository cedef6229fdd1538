use Rattle.std.proofs.Common.{◌≡◌, ◌-◌, [], Bool, ap, ℕ, Some, None, length, take, sym, subst, arith, ◌∙◌}
use Rattle.std.proofs.Math.ListN.{set}
use Rattle.std.proofs.lemmas.List.{length-take-le}
use Rattle.desk_io.specs.MemDesk.{state_of}
use Rattle.desk_io.specs.Entries.{Entry, IsOpen}
use Rattle.desk_io.proofs.EntriesLemmas.{put_at, open_after, open_less, can_append, open_named}
use Rattle.desk_io.proofs.memory.mem_desk.MemDeskDesk.put.Goals as goal

some_same : (a b : ℕ) → Some a ≡ Some b → a ≡ b
some_same a b is = cc

pub invariant_of-self-clause-created_open : goal.invariant_of-self-clause-created_open
invariant_of-self-clause-created_open c =
    λ i is. open_less c.args.self.now.files.items c.args.self.now.room c.min-count.result i (c.args.self.now.created_open i is)

pub index_mut-file-requires : goal.index_mut-file-requires
index_mut-file-requires c =
    let none : Entry = record { name = []; size = 0; held = None } in
    let opened = c.args.self.now.created_open c.in-Cert-Some.i c.in-Cert-Some.is-1 in
    omega (arith, (opened.first none).below, c.args.self.now.files.ok)

pub append-requires-in-Cert-Some : goal.append-requires-in-Cert-Some
append-requires-in-Cert-Some c =
    let opened = c.args.self.now.created_open c.in-Cert-Some.i c.in-Cert-Some.is-1 in
    let count : length (take c.min-count.result c.args.bytes.now) ≡ c.min-count.result = length-take-le c.min-count.result c.args.bytes.now (omega arith) in
    can_append c.args.self.now.files.items c.args.self.now.room c.in-Cert-Some.i (length (take c.min-count.result c.args.bytes.now)) c.index_mut-file.result.now opened c.index_mut-file.ensures.value (omega arith)

pub invariant_of-self-in-Cert-Some-clause-created_open : goal.invariant_of-self-in-Cert-Some-clause-created_open
invariant_of-self-in-Cert-Some-clause-created_open c = λ j is.
    let d = c.args.self.now in
    let i = c.in-Cert-Some.i in
    let count = c.min-count.result in
    let front = take count c.args.bytes.now in
    let opened = d.created_open i c.in-Cert-Some.is-1 in
    let size : length front ≡ count = length-take-le count c.args.bytes.now (omega arith) in
    let after : IsOpen (set d.files.items i c.append-in-Cert-Some.new.self) (d.room - length front) i =
    open_after d.files.items d.room i front c.append-in-Cert-Some.new.self c.index_mut-file.result.now opened c.index_mut-file.ensures.value c.append-in-Cert-Some.ensures (omega arith) in
    let same : i ≡ j = some_same i j (sym c.in-Cert-Some.is-1 ∙ is) in
    subst (λ (n : ℕ). IsOpen (set d.files.items i c.append-in-Cert-Some.new.self) (d.room - count) n) same
    (subst (λ (n : ℕ). IsOpen (set d.files.items i c.append-in-Cert-Some.new.self) (d.room - n) i) size after)

pub returns-in-Cert-Some-clause-written : goal.returns-in-Cert-Some-clause-written
returns-in-Cert-Some-clause-written c =
    let d = c.args.self.now in
    let i = c.in-Cert-Some.i in
    let count = c.min-count.result in
    let front = take count c.args.bytes.now in
    let opened = d.created_open i c.in-Cert-Some.is-1 in
    let put = put_at d.files.items d.room i front c.append-in-Cert-Some.new.self c.index_mut-file.result.now opened c.index_mut-file.ensures.value c.append-in-Cert-Some.ensures in
    let size : length front ≡ count = length-take-le count c.args.bytes.now (omega arith) in
    let room : d.room - count ≡ d.room - length front = omega (arith, size) in
    rw (c.in-Cert-Some.is-0, c.in-Cert-Some.is-1) (λ k. record {
      files = put.files k;
      may_create = put.names k;
      left = d.readers.left;
      out = d.out.bytes;
      created = put.created k;
      room = room k;
      plain = c.count-fails.ensures.plain k;
    })

pub returns-in-Cert-Some-clause-created : goal.returns-in-Cert-Some-clause-created
returns-in-Cert-Some-clause-created c = λ _.
    let opened = c.args.self.now.created_open c.in-Cert-Some.i c.in-Cert-Some.is-1 in
    rw c.in-Cert-Some.is-1 (open_named c.args.self.now.files.items c.args.self.now.room c.in-Cert-Some.i opened)

pub returns-in_default-clause-failed : goal.returns-in_default-clause-failed
returns-in_default-clause-failed c = ap (λ (plain : Bool). record (state_of c.args.self.now) { plain = plain }) c.count-fails.ensures.plain
