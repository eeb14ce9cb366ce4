use Rattle.std.proofs.Common.{◌≡◌, Result, Ok, Err, IfOk, refl, sym, ap, subst, ◌∙◌}
use Rattle.issuer_words.specs.Words.{CodecFault, Frame, IsLocal, Reads, ReplyBody, Writes, reply_to_request}
use Rattle.iso8583.specs.declared.message.Message.TheVariants as message
use Rattle.issuer_rows.specs.declared.frame.Frame.TheVariants.{Good, Bad}
use Rattle.issuer_rows.specs.declared.reply_body.ReplyBody.TheVariants.{Fault}
use Rattle.issuer_rules.proofs.FollowingLaws.{begins, concluded_with_none, concluded_local, concluded_all}
use Rattle.issuer_rules.proofs.StageLaws.{starts}
use Rattle.issuer_rules.proofs.shipped.ShippedDecide.decide.Goals as goal
use Rattle.issuer_rules.specs.Following.{Concludes}
use Rattle.issuer_rules.specs.Needs.{ReadsAllNeeds}
use Rattle.issuer_view.specs.Recording.{Recording, IsNew}
use Rattle.issuer_view.specs.declared.stop.Stop.{Stop}

-- what comes to the end of one plan is local, where that is the plan of the body
local : (good frame : Frame) (reads : Reads) (writes : Writes) (result : Result ReplyBody Stop)
    → frame ≡ good → IfOk result (Concludes good reads writes) → IfOk result (IsLocal frame reads writes)
local good frame reads writes (Ok reply) is done = subst (λ (f : Frame). IsLocal f reads writes reply) (sym is) (concluded_local good reads writes reply done)
local good frame reads writes (Err stop) is done = tt

-- a body that is no message comes to its fault at once
bad : {S : Type 0} (rows : Recording S) (fault : CodecFault) → IsNew rows → Concludes (Bad fault) rows.reads rows.writes (Fault fault)
bad rows fault new = concluded_with_none (Bad fault) rows _ _ (begins (Bad fault) _ _ new.0 new.1) refl

pub decide_request-requires : goal.decide_request-requires
decide_request-requires g c = record { at = starts (Good (message.Request c.in-Request.request)) c.requires }

pub decide_advice-requires : goal.decide_advice-requires
decide_advice-requires g c = record { at = starts (Good (message.Advice c.in-Advice.advice)) c.requires }

pub decide_reversal-requires : goal.decide_reversal-requires
decide_reversal-requires g c = record { at = starts (Good (message.Reversal c.in-Reversal.reversal)) c.requires }

pub returns-in_ok-verdict-in-Request-clause-local : goal.returns-in_ok-verdict-in-Request-clause-local
returns-in_ok-verdict-in-Request-clause-local g c =
    local (Good (message.Request c.in-Request.request)) c.args.frame.now c.decide_request.new.rows.reads c.decide_request.new.rows.writes
    (Ok (reply_to_request c.in-Request.request c.in_ok-verdict-in-Request.verdict)) (c.in-Good.is ∙ ap Good c.in-Request.is) c.in_ok-verdict-in-Request.ensures.done

pub returns-in-Advice-clause-local : goal.returns-in-Advice-clause-local
returns-in-Advice-clause-local g c =
    local (Good (message.Advice c.in-Advice.advice)) c.args.frame.now _ _ c.decide_advice.result (c.in-Good.is ∙ ap Good c.in-Advice.is) c.decide_advice.ensures.done

pub returns-in-Reversal-clause-local : goal.returns-in-Reversal-clause-local
returns-in-Reversal-clause-local g c =
    local (Good (message.Reversal c.in-Reversal.reversal)) c.args.frame.now _ _ c.decide_reversal.result (c.in-Good.is ∙ ap Good c.in-Reversal.is) c.decide_reversal.ensures.done

pub returns-in-Bad-clause-local : goal.returns-in-Bad-clause-local
returns-in-Bad-clause-local g c =
    local (Bad c.in-Bad.fault) c.args.frame.now c.args.rows.now.reads c.args.rows.now.writes (Ok (Fault c.in-Bad.fault)) c.in-Bad.is
    (bad c.args.rows.now c.in-Bad.fault c.requires)

pub returns-in-Bad-clause-all : goal.returns-in-Bad-clause-all
returns-in-Bad-clause-all g c =
    subst (λ (frame : Frame). ReadsAllNeeds frame c.args.rows.now.reads) (sym c.in-Bad.is)
    (concluded_all (Bad c.in-Bad.fault) c.args.rows.now.reads c.args.rows.now.writes (Fault c.in-Bad.fault) (bad c.args.rows.now c.in-Bad.fault c.requires))
