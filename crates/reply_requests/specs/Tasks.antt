-- The request that asks something of a game.
use Rattle.std.specs.Prelude.{ℕ, List}
use Rattle.std.specs.Borrow.{Bor}
use Rattle.reply_requests.specs.declared.requests.Request.{Request}
use Rattle.reply_requests.specs.declared.requests.Request.TheVariants as request
use Rattle.reply_requests.specs.declared.tasks.Task.{Task}
use Rattle.reply_requests.specs.declared.tasks.Task.TheVariants as task

abbrev pub request_of : Task → (game : Bor (List ℕ)) → Request
request_of (task.Judge settle best) game = request.Judge game settle best
request_of (task.Explain line likely lead draft) game = request.Explain game line likely lead draft
request_of (task.Audit corrected) game = request.Audit game corrected
request_of (task.Top line rack number) game = request.Top game line rack number
request_of (task.Page likely) game = request.Page game likely
request_of (task.Repair number repaired draft) game = request.Repair game number repaired draft
request_of (task.Annotate number) game = request.Annotate game number
request_of (task.Fill filled) game = request.Fill game filled
request_of task.Next game = request.Next game
