pub mod ContentsLaws
