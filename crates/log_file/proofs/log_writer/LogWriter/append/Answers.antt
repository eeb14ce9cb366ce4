use Rattle.std.proofs.Common.{◌∙◌, ◌∷◌, [], List, ℕ, sym, ap, arith}
use Rattle.std.proofs.lemmas.List.{length-append}
use Rattle.file_laws.specs.Files.{AreBodies}
use Rattle.file_laws.specs.Texts.{first_digest, next_digest}
use Rattle.file_laws.proofs.Chain.{digest_one_more}
use Rattle.log_file.proofs.Logging.{one_more}
use Rattle.log_file.proofs.Stepping.{are_more}
use Rattle.log_file.proofs.log_writer.LogWriter.append.Goals as goal

pub returns-clause-synced : goal.returns-clause-synced
returns-clause-synced g c = λ book entries has.
    let old = c.args.self.now in
    let put = c.in_default-put_and_sync.ensures in
    let are : AreBodies c.args.bodies.now = c.make_entry.ensures.are in
    record {
      are = are_more entries c.args.bodies.now has.are are;
      known = put.file.known has.known;
      text = one_more book (g.G.GrowingFile.synced old.file) (g.G.GrowingFile.unsynced old.file) (g.G.GrowingFile.synced c.put_and_sync.new.file) c.deref.result.now entries c.args.bodies.now old.digest
          has.text has.nothing has.digest (c.deref.ensures.value ∙ c.in_ok-digest.ensures.text) (put.synced has.known);
      nothing = put.all has.known;
      digest = c.in_ok-digest.ensures.digest ∙ ap (λ (d : List ℕ). next_digest d c.args.bodies.now) has.digest ∙ sym (digest_one_more (first_digest book) entries c.args.bodies.now);
      count = omega (arith, c.in-Some.ensures, has.count, length-append entries (c.args.bodies.now ∷ []));
    }
