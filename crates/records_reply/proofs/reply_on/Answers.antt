-- `records_reply::reply_on` meets its contract: each question by the function that answers it.
use Rattle.records_reply.specs.Replies.{reply_to}
use Rattle.records_reply.proofs.reply_on.Goals as goal

pub returns-in-IsGiven : goal.returns-in-IsGiven
unfolding reply_to
returns-in-IsGiven c = rw (c.in-IsGiven.is, c.is_given.ensures)

pub returns-in-VcpuTime : goal.returns-in-VcpuTime
unfolding reply_to
returns-in-VcpuTime c = rw (c.in-VcpuTime.is, c.vcpu_time.ensures)

pub returns-in-WaitTime : goal.returns-in-WaitTime
unfolding reply_to
returns-in-WaitTime c = rw (c.in-WaitTime.is, c.wait_time.ensures)

pub returns-in-TaskTime : goal.returns-in-TaskTime
unfolding reply_to
returns-in-TaskTime c = rw (c.in-TaskTime.is, c.task_time.ensures)

pub returns-in-SectionResponse : goal.returns-in-SectionResponse
unfolding reply_to
returns-in-SectionResponse c = rw (c.in-SectionResponse.is, c.section_response.ensures)

pub returns-in-RunTo : goal.returns-in-RunTo
unfolding reply_to
returns-in-RunTo c = rw (c.in-RunTo.is, c.run_of.ensures)
