use Rattle.std.proofs.Common.{Err, ap}
use Rattle.tlmsim.proofs.Ends.{no_page, page_short}
use Rattle.tlmsim.proofs.Large.{large_unread, small_page}
use Rattle.tlmsim.proofs.pages.page.Goals as goal

pub returns-clause-works : goal.returns-clause-works
returns-clause-works g c = λ words err err' faults faults' line. rw (c.cut.ensures, c.new-choices.ensures)
    (page_short _ c.in-Ok-page_of.page
    (record {
      kind = c.args.kind;
      name = c.args.file.now;
      line = line;
      text = c.in-Ok.text;
      is_text = record { text = c.in-Ok.ensures.text; within = c.in-Ok.ensures.within };
      is_page = rw c.as_slice.ensures at c.in-Ok-page_of.ensures.page;
    })
    c.in-Err-write_all.trouble (rw c.as_slice-2.ensures at c.in-Err-write_all.ensures.bytes) (λ is. c.in-Err-write_all.ensures.cause.rose (ap (λ e. Err e) is)))

pub returns-in-Err-clause-no_more : goal.returns-in-Err-clause-no_more
returns-in-Err-clause-no_more g c = rw c.unread.ensures (large_unread c.in-Err.stop _ c.in-Err.ensures.no_more)

pub returns-in-Err-page_of-clause-no_more : goal.returns-in-Err-page_of-clause-no_more
returns-in-Err-page_of-clause-no_more g c = small_page _ _ c.in-Err-page_of.stop _ c.in-Err-page_of.ensures.refused
