use Rattle.bd_audit.proofs.RepliesAnswerTheLatestOpenCall.LatestCall.{answers_latest}
use Rattle.bd_audit.proofs.laws.replies_answer_the_latest_open_call.Goals as goal

pub returns : goal.returns
returns c = λ h lawful s w e. answers_latest h s w e
