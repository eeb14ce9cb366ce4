use Rattle.link_frames.proofs.Tails.{reply_framed}
use Rattle.link_frames.proofs.network_answering.add_network_reply.Goals as goal

pub returns : goal.returns
returns c =
    reply_framed c.args.out.now.items c.add_head.new.out.items c.add_tail.new.out.items c.extend_from_slice.new.self.items c.args.message.now c.in_ok-add_tail.ensures.size
    c.in_ok-add_head.ensures c.in_ok-add_tail.ensures.text c.in_ok-extend_from_slice.ensures.items
