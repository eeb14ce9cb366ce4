use Rattle.std.proofs.Common.{◌≡◌, ◌∙◌, ◌&&◌, ℕ, ap, nat_lt, Some, None, option_and_then, if◌then◌else◌}
use Rattle.clap.proofs.WalkLemmas.{byte_read}
use Rattle.clap.specs.Walk.{byte_or_zero}
use Rattle.app_words.specs.Asked.{worker_count}
use Rattle.app_words.proofs.ArgumentLemmas.{workers_are}
use Rattle.app_words.proofs.asked.workers_of.Goals as goal

pub returns : goal.returns
returns c =
    let count : c.from.result ≡ byte_or_zero c.in_ok-text.text.now =
    c.from.ensures ∙ c.unwrap_or-count.ensures ∙ byte_read c.in_ok-text.text.now c.parse.result c.parse.ensures.value.0 in
    workers_are c.from.result c.new.result c.new.ensures
    ∙ ap (λ (n : ℕ). if nat_lt 0 n && nat_lt n 65 then Some n else None) count
    ∙ ap (option_and_then worker_count) c.in_ok-text.ensures
