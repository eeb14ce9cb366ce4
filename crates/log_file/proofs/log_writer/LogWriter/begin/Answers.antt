use Rattle.std.proofs.Common.{◌≡◌, ◌∙◌, ◌++◌, List, ℕ, refl, ap}
use Rattle.std.proofs.lemmas.List.{append-nil}
use Rattle.sha2.specs.Sha256.{sha256}
use Rattle.file_laws.specs.Texts.{header_text}
use Rattle.log_file.proofs.Logging.{header_alone}
use Rattle.log_file.proofs.Stepping.{first_is}
use Rattle.log_file.proofs.log_writer.LogWriter.begin.Goals as goal

pub returns-clause-begun : goal.returns-clause-begun
returns-clause-begun g c = (
  refl,
  λ known.
      let file = c.args.file in
      let mid = c.cut_and_sync.new.file in
      let new = c.put_and_sync.new.file in
      let book = c.args.book.now in
      let cut = c.in_ok-cut_and_sync.ensures in
      let put = c.in_ok-put_and_sync.ensures in
      let known1 = cut.file.known known in
      let header : c.deref.result.now ≡ header_text book = c.deref.ensures.value ∙ c.in_ok-header.ensures in
      let header2 : c.deref-2.result.now ≡ header_text book = c.deref-2.ensures.value ∙ c.in_ok-header.ensures in
      let text = put.synced known1 ∙ ap (λ (x : List ℕ). g.G.GrowingFile.synced mid ++ g.G.GrowingFile.unsynced mid ++ x) header in
      let digest : c.digest_of-digest.result ≡ sha256 (header_text book) = c.digest_of-digest.ensures ∙ ap sha256 (append-nil c.deref-2.result.now ∙ header2) in (
        (c.in_ok-is_unbegun.ensures.unbegun known).0 c.if-not-branch.false,
        record {
          are = tt;
          known = put.file.known known1;
          text = header_alone book (g.G.GrowingFile.synced mid) (g.G.GrowingFile.unsynced mid) (g.G.GrowingFile.synced new) (g.G.GrowingFile.synced file ++ g.G.GrowingFile.unsynced file) (cut.synced known) (cut.all known) text;
          nothing = put.all known1;
          digest = first_is book c.digest_of-digest.result digest;
          count = refl;
        },
      ),
)
