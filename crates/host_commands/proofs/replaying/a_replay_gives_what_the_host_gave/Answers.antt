use Rattle.book_laws.specs.Text.{book_text}
use Rattle.sha2.proofs.Facts256.{length-sha256}
use Rattle.host_commands.proofs.OneReading.{given_again}
use Rattle.host_commands.proofs.replaying.a_replay_gives_what_the_host_gave.Goals as goal

pub returns : goal.returns
returns g c opening entries messages decided blocks = given_again _ _ _ opening entries messages decided blocks _ (length-sha256 (book_text opening))
