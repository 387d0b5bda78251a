use Rattle.sample_jpeg.proofs.PlansRead.{header_put}
use Rattle.sample_jpeg.proofs.header.put_header.Goals as goal

pub returns : goal.returns
returns c =
    header_put c.args.extent.now c.args.file.now.items _ _ _ _ _ _ c.in_ok-extend_from_slice.ensures.items c.in_ok-put_frame.ensures
    c.in_ok-put_table.ensures c.in_ok-put_table-2.ensures c.in_ok-put_interval.ensures c.in_ok-extend_from_slice-2.ensures.items
