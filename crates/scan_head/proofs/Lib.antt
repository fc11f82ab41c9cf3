pub mod HeadLaws
