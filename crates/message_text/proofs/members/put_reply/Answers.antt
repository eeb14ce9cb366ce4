use Rattle.message_text.proofs.members.put_reply.Goals as goal

pub returns-in-Reply : goal.returns-in-Reply
returns-in-Reply c = rw (c.in-Reply.is) c.put_answer.ensures
