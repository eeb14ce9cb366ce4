use Rattle.std.proofs.Common.{rules, ◌≡◌, ◌<◌, ◌≤◌, ◌+◌, ◌++◌, ◌∙◌, length, map, string_bytes, ap, arith}
use Rattle.std.proofs.lemmas.List.{length-map, map-append}
use Rattle.file_batch.specs.Bodies.{bytes_of}
use Rattle.file_laws.specs.declared.batch_fault.BatchFault.TheVariants.{Count}
use Rattle.app_jobs.specs.declared.job_fault.JobFault.TheVariants.{Batch}
use Rattle.app_messages.specs.Packed.{HasBodies}
use Rattle.app_messages.proofs.TextSteps.{all_texts, more_bodies, one_more_fault, one_more_text, too_many}
use Rattle.app_messages.proofs.opening.open_texts.Goals as goal

pub returns-then-len-gt65536-clause-fault : goal.returns-then-len-gt65536-clause-fault
returns-then-len-gt65536-clause-fault g c =
    let holds = g.F.Files.holds c.args.files.now in
    let bodies = bytes_of c.loop-name.bodies.items in
    let own = bytes_of c.in_ok-own.own.items in
    let has : HasBodies holds (string_bytes c.in-Some.name.now) own = rw c.as_str.ensures.value at c.in_ok-own.ensures.bodies in
    let many : 65536 < length bodies + length own =
    let more = c.if-len-gt65536.true in
    let so_far = c.len.ensures ∙ c.loop-name.bodies.ok.0 in
    let further = c.len-in-Some.ensures ∙ c.in_ok-own.own.ok.0 in
    rw (length-map, length-map) (omega arith) in
    (rw c.in-Some.ensures.cases.0 at c.loop-name.invariant.fails) (Batch Count) (too_many holds (g.F.Files.failing c.args.files.now) (string_bytes c.in-Some.name.now) (map string_bytes c.in-Some.more.now) bodies own has many)

pub loop-name-preserved : goal.loop-name-preserved
loop-name-preserved g c =
    let holds = g.F.Files.holds c.args.files.now in
    let failing = g.F.Files.failing c.args.files.now in
    let all = map string_bytes c.args.names.now in
    let name = string_bytes c.in-Some.name.now in
    let more = map string_bytes c.in-Some.more.now in
    let are = c.in-Some.ensures.cases.0 in
    let bodies = bytes_of c.loop-name.bodies.items in
    let own = bytes_of c.in_ok-own.own.items in
    let has : HasBodies holds name own = rw c.as_str.ensures.value at c.in_ok-own.ensures.bodies in
    let appended : bytes_of c.append.new.self.items ≡ bodies ++ own =
    ap bytes_of c.in_ok-append.ensures.items ∙ map-append (λ body. body.items) c.loop-name.bodies.items c.in_ok-own.own.items in
    let few : length bodies + length own ≤ 65536 =
    let at_most = c.if-len-gt65536.false in
    let so_far = c.len.ensures ∙ c.loop-name.bodies.ok.0 in
    let further = c.len-in-Some.ensures ∙ c.in_ok-own.own.ok.0 in
    rw (length-map, length-map) (omega arith) in
    record {
      fit = rw appended (more_bodies bodies own c.loop-name.invariant.fit c.in_ok-own.ensures.fit few);
      there = λ known behind. (rw are at c.loop-name.invariant.there) known (rw c.as_str.ensures.value at (c.in_ok-own.ensures.there known), behind);
      read = λ others h. rw appended (one_more_text holds all name more bodies own (rw are at c.loop-name.invariant.read) has others h);
      fails = λ fault h. one_more_fault holds failing all name more bodies own (rw are at c.loop-name.invariant.fails) has fault (rw appended at h);
    }

pub returns-clause-bodies : goal.returns-clause-bodies
returns-clause-bodies g c =
    let none : length c.loop-name.rest.now ≡ 0 = search rules in
    all_texts (g.F.Files.holds c.args.files.now) (map string_bytes c.args.names.now) c.loop-name.rest.now (bytes_of c.loop-name.bodies.items) none c.loop-name.invariant.read
