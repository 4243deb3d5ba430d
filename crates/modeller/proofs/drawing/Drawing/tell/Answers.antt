use Rattle.std.proofs.Common.{length, arith}
use Rattle.modeller.proofs.Telling.{drawn_ready, reply_place}
use Rattle.modeller.proofs.drawing.Drawing.tell.Goals as goal

pub place_reply-requires-clause-ready : goal.place_reply-requires-clause-ready
place_reply-requires-clause-ready c =
    let d = c.args.self.now in drawn_ready d.text.now d.layout d.read c.questions.result c.args.k c.questions.ensures (omega (arith, c.if-k-questions.false))

pub returns : goal.returns
returns c =
    let d = c.args.self.now in
    reply_place d.text.now d.layout d.read c.questions.result (length c.args.work.now) c.args.k c.questions.ensures (omega (arith, c.if-work-lt-WORK_NEEDED.false)) c.place_reply.result
    (omega (arith, c.if-k-questions.false)) c.place_reply.ensures
