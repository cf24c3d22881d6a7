pub mod SegmentView
