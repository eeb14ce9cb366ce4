use Rattle.std.proofs.Common.{arith}
use Rattle.iso_laws.specs.Types.{given_out}
use Rattle.iso_laws.specs.Replies.{reply_mti, reply_fields, IsReply}
use Rattle.iso_laws.proofs.Replies.{reply_are, reply_given, same_reply}
use Rattle.iso_codec.proofs.Found.{is_found, is_only, needs_no_memory}
use Rattle.iso_codec.proofs.decoding.decode_reply.Goals as goal

pub returns-clause-found : goal.returns-clause-found
returns-clause-found c =
    is_found given_out reply_mti reply_fields IsReply reply_are reply_given same_reply c.args.bytes.now c.reply_at.result (λ i. omega (arith, c.type_inv.bytes i)) c.reply_at.ensures.gives c.reply_at.ensures.values

pub returns-clause-only : goal.returns-clause-only
returns-clause-only c =
    is_only given_out reply_mti reply_fields IsReply reply_are reply_given same_reply c.args.bytes.now c.reply_at.result c.reply_at.ensures.gives c.reply_at.ensures.values

pub returns-clause-no_memory : goal.returns-clause-no_memory
returns-clause-no_memory c =
    needs_no_memory given_out reply_mti reply_fields IsReply reply_are reply_given same_reply c.args.bytes.now c.reply_at.result c.reply_at.ensures.gives
