use Rattle.file_devices.specs.BatchNames.{names_of}
use Rattle.app_laws.proofs.Repeats.{as_if_unsent, same_reply_later}
use Rattle.app_laws.proofs.repeat_laws.a_repeat_to_a_later_run_is_answered_alike.Goals as goal

pub returns-clause-reply : goal.returns-clause-reply
returns-clause-reply g c count more i j replies later_replies first second k l two two_later book is read read_later =
    same_reply_later _ _ _ _ _ _ (names_of c.args.names.now) (names_of c.args.later.now) count more i j replies later_replies first second k l two two_later book is
    read read_later

pub returns-clause-book : goal.returns-clause-book
returns-clause-book g c count more i j first second k l book is =
    rw (as_if_unsent _ _ _ _ _ _ (names_of c.args.names.now) (names_of c.args.later.now) count more i j first second k book is).0 (second.after l)

pub returns-clause-others : goal.returns-clause-others
returns-clause-others g c count more i j first second k book is =
    (as_if_unsent _ _ _ _ _ _ (names_of c.args.names.now) (names_of c.args.later.now) count more i j first second k book is).1
