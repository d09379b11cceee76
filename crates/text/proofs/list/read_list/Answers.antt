use Rattle.std.proofs.Common.{◌≡◌, ℕ, min, [], length, sym, refl, ap, ◌∙◌, arith, rules}
use Rattle.text.specs.Files.{row_count}
use Rattle.text.specs.Lists.{last_asked, reply_after, list_step, over}
use Rattle.text.proofs.FileReading.{file_answer_is, file_left}
use Rattle.text.proofs.Buffers.{buffer_read}
use Rattle.text.proofs.ListReading.{list_takes, list_refuses}
use Rattle.text.proofs.ListFiles.{list_exact}
use Rattle.text.proofs.list.read_list.Goals as goal

pub read_rows-requires-clause-room : goal.read_rows-requires-clause-room
read_rows-requires-clause-room c = (
  record { kept = c.new-list.result.out.ghost_name; front = []; rest = c.args.out.now },
  ((c.new-list.ensures.value, refl, c.new-list.ensures.none.0), c.new-list.ensures.none.1),
  omega (arith, c.in_ok-rows.ensures.within, c.min-most.ensures),
)

pub returns : goal.returns
returns c =
    let old = c.args.out.now in
    let room = length old in
    let list = c.read_rows.new.taker in
    let name = c.new-list.result.out.ghost_name in
    let size = c.in_ok-rows.ensures.value ∙ ap (λ m. row_count 35 m (length c.args.bytes.now)) c.min-most.ensures in
    let read = buffer_read name reply_after list_step (list_takes name) (list_refuses name) 35 old c.in_ok-rows.rows c.args.bytes.now (λ (n : ℕ). n) c.read_rows.result list.out list.count
    (λ s. list.last ≡ last_asked 0 s.front)
    (c.read_rows.ensures (record { kept = name; front = []; rest = old }) ((c.new-list.ensures.value, refl, c.new-list.ensures.none.0), c.new-list.ensures.none.1)) in
    let value = read.value ∙ file_answer_is list_step 35 [] c.args.bytes.now c.in_ok-rows.rows (min 50000 room) [] size in
    let after = read.after ∙ ap (λ rs. over rs old) (file_left list_step 35 [] c.args.bytes.now c.in_ok-rows.rows (min 50000 room) [] size) in
    let same = sym c.new-list.ensures.same ∙ sym read.same in
    record { value = value; after = search rules; exact = list_exact c.args.bytes.now room _ value }
