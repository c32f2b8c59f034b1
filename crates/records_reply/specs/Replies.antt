-- What is replied to a question about lent tables: what the test for 9, the rows and the responses asked for by their names, and the run to a horizon say.
use Rattle.plan_tables.specs.declared.PlanRecord.{PlanRecord}
use Rattle.plan_tables.specs.Layout.{Tables}
use Rattle.plan_tables.specs.Given.{is_given}
use Rattle.answers_tasks.specs.Asked.{vcpu_asked, wait_asked, task_asked, response_asked}
use Rattle.clock_rules.specs.Clock.{run_for}
pub use Rattle.records_reply.specs.declared.Question.{Question}
pub use Rattle.records_reply.specs.declared.Question.TheVariants.{IsGiven, VcpuTime, WaitTime, TaskTime, SectionResponse, RunTo}
pub use Rattle.records_reply.specs.declared.Replied.{Replied}
pub use Rattle.records_reply.specs.declared.Replied.TheVariants.{Given, Row, TaskRow, Figure, Run}

unfoldable pub reply_to : PlanRecord → Tables → Question → Replied
reply_to r t IsGiven = Given (is_given r t)
reply_to r t (VcpuTime v) = Row (vcpu_asked r t v)
reply_to r t (WaitTime v n place) = Row (wait_asked r t v n place)
reply_to r t (TaskTime v n) = TaskRow (task_asked r t v n)
reply_to r t (SectionResponse v n place) = Figure (response_asked r t v n place)
reply_to r t (RunTo h) = Run (run_for r t h)
